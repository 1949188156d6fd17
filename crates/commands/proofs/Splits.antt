-- How input splits into lines, as `split_inclusive` gives them and `strip_suffix` takes their last byte off.
use Rattle.std.proofs.Common.{◌≡◌, ℕ, suc, ◌+◌, ◌-◌, ◌<◌, ◌≤◌, min, true, false, cond, ◌&&◌, eqb, List, [], ◌∷◌, ◌++◌, length, get_or, take, drop, Some, None, Option, Bor, sym, refl, ap, ◌∙◌, ⊎_elim, append_assoc, append-nil, subst, arith, length-append}
use Rattle.std.specs.List.{All, IsFirstMatchOrLen}
use Rattle.std.specs.Option.{MatchOption, unwrap_or}
use Rattle.std.proofs.Math.Seq.{drop-append_seam, take-append_seam}
use Rattle.std.proofs.lemmas.Bool.{cases_lt, eqb-true, true≢false}
use Rattle.std.proofs.lemmas.List.{nil_from_length, length-take-le, get_or-take}
use Rattle.std.proofs.lemmas.Grind.{common_steps, take_at_read}
use lib.Pointwise.{pointwise}
use Rattle.commands.specs.Lines.{in_front, lines_of}

-- no byte of these ends a line
abbrev NoEnd : List ℕ → Type 0
NoEnd xs = All (λ b. eqb b 10 ≡ false) xs

behind : (x : ℕ) (xs : List ℕ) → NoEnd (x ∷ xs) → NoEnd xs
behind x xs none k d h = none (suc k) d (omega (arith, h))

-- the first line, with a byte 10 behind it, and without one
line_ended : (xs left : List ℕ) → NoEnd xs → lines_of (xs ++ 10 ∷ left) ≡ xs ∷ lines_of left
line_ended [] left none = refl
line_ended (x ∷ xs) left none =
    let here : eqb x 10 ≡ false = none 0 0 (omega arith) in
    let later : NoEnd xs = behind x xs none in
    ap (λ b. cond b ([] ∷ lines_of (xs ++ 10 ∷ left)) (in_front x (lines_of (xs ++ 10 ∷ left)))) here ∙ ap (in_front x) (line_ended xs left later)

line_last : (x : ℕ) (xs : List ℕ) → NoEnd (x ∷ xs) → lines_of (x ∷ xs) ≡ (x ∷ xs) ∷ []
line_last x [] none = ap (λ b. cond b ([] ∷ []) (in_front x [])) (none 0 0 (omega arith))
line_last x (y ∷ xs) none =
    let later : NoEnd (y ∷ xs) = behind x (y ∷ xs) none in
    ap (λ b. cond b ([] ∷ lines_of (y ∷ xs)) (in_front x (lines_of (y ∷ xs)))) (none 0 0 (omega arith)) ∙ ap (in_front x) (line_last y xs later)

line_only : (xs : List ℕ) → 0 < length xs → NoEnd xs → lines_of xs ≡ xs ∷ []
line_only [] some none = absurd (omega (arith, some))
line_only (x ∷ xs) some none = line_last x xs none

-- what `strip_suffix` says of the byte 10
abbrev pub Stripped : List ℕ → Option (Bor (List ℕ)) → Type 0
Stripped xs r =
    MatchOption r (pointwise eqb (drop (length xs - 1) xs) (10 ∷ []) ≡ false)
    (λ y. (pointwise eqb (drop (length xs - 1) xs) (10 ∷ []) ≡ true) × (y.now ≡ take (length xs - 1) xs) × (length y.now + 1 ≡ length xs))

same_last : (xs : List ℕ) → drop (length (xs ++ 10 ∷ []) - 1) (xs ++ 10 ∷ []) ≡ 10 ∷ []
same_last xs = ap (λ n. drop n (xs ++ 10 ∷ [])) (omega (arith, length-append xs (10 ∷ []))) ∙ drop-append_seam xs (10 ∷ [])

same_front : (xs : List ℕ) → take (length (xs ++ 10 ∷ []) - 1) (xs ++ 10 ∷ []) ≡ xs
same_front xs = ap (λ n. take n (xs ++ 10 ∷ [])) (omega (arith, length-append xs (10 ∷ []))) ∙ take-append_seam xs (10 ∷ [])

-- a piece with a byte 10 at its end, and one without
strip_ended : (xs ys : List ℕ) (r : Option (Bor (List ℕ))) (piece : Bor (List ℕ)) → ys ≡ xs ++ 10 ∷ [] → Stripped ys r → (unwrap_or r piece).now ≡ xs
strip_ended xs ys None piece are h = absurd (true≢false (sym (ap (λ zs. pointwise eqb zs (10 ∷ [])) (ap (λ zs. drop (length zs - 1) zs) are ∙ same_last xs)) ∙ h))
strip_ended xs ys (Some y) piece are h = h.1 ∙ ap (λ zs. take (length zs - 1) zs) are ∙ same_front xs

strip_last : (ys : List ℕ) (r : Option (Bor (List ℕ))) (piece : Bor (List ℕ)) → 0 < length ys → NoEnd ys → Stripped ys r → piece.now ≡ ys → (unwrap_or r piece).now ≡ ys
strip_last ys None piece some none h same = same
strip_last ys (Some y) piece some none h same =
    let last : drop (length ys - 1) ys ≡ get_or ys (length ys - 1) 0 ∷ [] = grind (arith, common_steps) in
    let other : eqb (get_or ys (length ys - 1) 0) 10 ≡ false = none (length ys - 1) 0 (omega arith) in
    absurd (true≢false (sym h.0 ∙ ap (λ zs. pointwise eqb zs (10 ∷ [])) last ∙ ap (λ b. b && true) other))

-- the first line and the lines behind it
pub line_first :
    (rest left : List ℕ) (piece : Bor (List ℕ)) (r : Option (Bor (List ℕ))) (i : ℕ) → rest ≡ piece.now ++ left → length piece.now ≡ min (i + 1) (length rest)
    → IsFirstMatchOrLen (λ b. eqb b 10) rest i → 0 < length rest → Stripped piece.now r
    → lines_of rest ≡ (unwrap_or r piece).now ∷ lines_of left
line_first rest left piece r i are long first some h =
    ⊎_elim
    (λ (low : i < length rest).
    let byte : get_or rest i 0 ≡ 10 = eqb-true (get_or rest i 0) 10 (first.1 low 0) in
    let front : piece.now ≡ take (i + 1) rest = sym (ap (take (i + 1)) are ∙ ap (λ n. take n (piece.now ++ left)) (omega arith) ∙ take-append_seam piece.now left) in
    let ended : piece.now ≡ take i rest ++ 10 ∷ [] = front ∙ (take_at_read rest i 0 low).1 ∙ ap (λ b. take i rest ++ b ∷ []) byte in
    let none : NoEnd (take i rest) = λ k d l. let within : k < i = omega (arith, length-take-le i rest (omega arith)) in ap (λ b. eqb b 10) (get_or-take i rest k d within) ∙ first.0 k d (omega arith) within in
    let whole : rest ≡ take i rest ++ 10 ∷ left = are ∙ ap (λ xs. xs ++ left) ended ∙ append_assoc (take i rest) (10 ∷ []) left in
    ap lines_of whole ∙ line_ended (take i rest) left none ∙ ap (λ xs. xs ∷ lines_of left) (sym (strip_ended (take i rest) piece.now r piece ended h)))
    (λ (high : length rest ≤ i).
    let nothing : left ≡ [] = nil_from_length left (omega (arith, ap length are, length-append piece.now left)) in
    let same : rest ≡ piece.now = are ∙ ap (λ xs. piece.now ++ xs) nothing ∙ append-nil piece.now in
    let none : NoEnd rest = λ k d l. first.0 k d (omega arith) (omega arith) in
    let stripped : (unwrap_or r piece).now ≡ rest = strip_last rest r piece some none (subst (λ xs. Stripped xs r) (sym same) h) (sym same) in
    line_only rest some none ∙ (λ j. sym stripped j ∷ lines_of (sym nothing j)))
    (cases_lt i (length rest))
