-- A part of a list: so many elements, from a first one on.
use Rattle.std.proofs.Common.{◌≡◌, ℕ, ◌+◌, ◌-◌, ◌<◌, ◌≤◌, List, [], ◌∷◌, ◌++◌, length, get_or, take, drop, set, ap, ◌∙◌, arith}
use Rattle.std.proofs.lemmas.List.{length-take-le, length-drop, get_or-take, get_or-drop, get_or_past, drop-set-add, take-set-le, take_more_set}

module _ (xs : List ℕ) (first count : ℕ) where
  pub span_length : first + count ≤ length xs → length (take count (drop first xs)) ≡ count
  span_length fits = length-take-le count (drop first xs) (rw length-drop (omega arith))

  pub span_at : (i : ℕ) → i < count → get_or (take count (drop first xs)) i 0 ≡ get_or xs (first + i) 0
  span_at i low = get_or-take count (drop first xs) i 0 low ∙ get_or-drop first xs i 0

  pub span_past : first + count ≤ length xs → (i : ℕ) → count ≤ i → get_or (take count (drop first xs)) i 0 ≡ 0
  span_past fits i high = get_or_past (take count (drop first xs)) i 0 (omega (arith, span_length fits))

  -- a write to or behind the end of the part, seen from where the part begins
  moved : (place x : ℕ) → first + count ≤ place → drop first (set xs place x) ≡ set (drop first xs) (place - first) x
  moved place x behind =
      let split : place ≡ first + (place - first) = omega arith in
      ap (λ p. drop first (set xs p x)) split ∙ drop-set-add first xs (place - first) x

  -- a write behind the part leaves it
  pub span_kept : (place x : ℕ) → first + count ≤ place → take count (drop first (set xs place x)) ≡ take count (drop first xs)
  span_kept place x behind =
      ap (take count) (moved place x behind) ∙ take-set-le count (drop first xs) (place - first) x (omega arith)

  -- a write right behind the part is its next element
  pub span_more : (place x : ℕ) → first + count ≡ place → place < length xs
      → take (count + 1) (drop first (set xs place x)) ≡ take count (drop first xs) ++ x ∷ []
  span_more place x end within =
      let at : place - first ≡ count = omega arith in
      let room : count < length (drop first xs) = rw length-drop (omega arith) in
      ap (take (count + 1)) (moved place x (omega arith) ∙ ap (λ i. set (drop first xs) i x) at)
      ∙ take_more_set (drop first xs) count x room
