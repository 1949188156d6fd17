-- The fields of a line, one after another, as `split` gives them.
use Rattle.std.proofs.Common.{◌≡◌, ℕ, Bool, false, cond, eqb, List, [], ◌∷◌, Some, None, Option, Bor, sym, refl, ap, ◌∙◌, subst}
use Rattle.std.specs.Fn.{CalledAt}
use Rattle.std.specs.List.{slice_split, onto_first}
use Rattle.std.specs.declared.slice.Split.{Split}
use Rattle.std.specs.Slice.Iter.{split_rest, split_done, split_callee, split_steps}
use Rattle.std.proofs.lemmas.Iterator.{YieldsList}
use Rattle.std.proofs.lemmas.Iterator.Splits.{YieldsList-from_slice_split}
use denote.Param.Members.{Mut}
use Rattle.commands.specs.Lines.{in_front, fields_of}

front : (x : ℕ) (fields : List (List ℕ)) → onto_first x fields ≡ in_front x fields
front x [] = refl
front x (field ∷ fields) = refl

-- std's words for the fields of a line
fields_split : (line : List ℕ) → slice_split (λ b. eqb b 32) line ≡ fields_of line
fields_split [] = refl
fields_split (x ∷ line) =
    ap (λ fields. cond (eqb x 32) ([] ∷ fields) (onto_first x fields)) (fields_split line) ∙ ap (cond (eqb x 32) ([] ∷ fields_of line)) (front x (fields_of line))

-- a line that is cut at each byte for which a closure says that it is a space
pub fields_yielded :
    {F : Type 0} {f : F} (g : Mut F (Bor ℕ × Unit {0}) Bool) (s : Split ℕ F) (line : List ℕ) → split_rest s ≡ line → split_done s ≡ false → split_callee s ≡ f
    → ((x : ℕ) (b : Bool) (q : F) → CalledAt g f x b q → (q ≡ f) × (b ≡ eqb x 32)) → YieldsList (split_steps g) (λ x. x.now) s (fields_of line)
fields_yielded g s line rest done callee tests =
    subst (YieldsList (split_steps g) (λ x. x.now) s) (fields_split line) (YieldsList-from_slice_split g (λ b. eqb b 32) line rest done callee tests)

-- a call of `next` gives the first item that is left, or there is none
pub next_some :
    {S A B : Type 0} {steps : S → Option A → S → Type 0} {v : A → B} {s : S} {all : List B} → YieldsList steps v s all → (x : A) (t : S) → steps s (Some x) t
    → (rest : List B) × (all ≡ v x ∷ rest) × YieldsList steps v t rest
next_some {all = []} yields x t step = absurd (yields.runs _ _ step)
next_some {all = y ∷ ys} yields x t step =
    let more = yields.runs.1 _ _ step in (ys, ap (λ z. z ∷ ys) (sym more.0), record { runs = more.1 })

pub next_none :
    {S A B : Type 0} {steps : S → Option A → S → Type 0} {v : A → B} {s : S} {all : List B} → YieldsList steps v s all → (t : S) → steps s None t → all ≡ []
next_none {all = []} yields t step = refl
next_none {all = y ∷ ys} yields t step = absurd (yields.runs.0 _ step)
