-- The lowest number that passes a test.
use Rattle.std.specs.Prelude.{◌≡◌, ℕ, zero, suc, ◌<◌, Bool, true, false, cond, Some, None, Option}

-- the first that is there
abbrev pub or_else : {A : Type 0} → Option A → Option A → Option A
or_else None y = y
or_else (Some x) y = Some x

-- the lowest number below n that passes: the lowest below n - 1, or else n - 1
abbrev pub lowest : (ℕ → Bool) → ℕ → Option ℕ
lowest test zero = None
lowest test (suc n) = or_else (lowest test n) (cond (test n) (Some n) None)

-- i is below n and passes, and no lower number does
pub record Lowest (test : ℕ → Bool) (n i : ℕ) : Type 0 where
  pub below : i < n
  pub passes : test i ≡ true
  pub none_lower : (k : ℕ) → k < i → test k ≡ false

-- what `lowest` gives is the lowest number that passes, and where it gives none, none passes
abbrev pub LowestMeans : Type 0
LowestMeans =
    (test : ℕ → Bool) (n : ℕ)
    → ((i : ℕ) → lowest test n ≡ Some i → Lowest test n i)
    × (lowest test n ≡ None → (k : ℕ) → k < n → test k ≡ false)
