-- The numbers of a line come from its fields.
use Rattle.std.proofs.Common.{◌≡◌, ℕ, Bool, true, false, cond, ◌&&◌, eqb, List, [], ◌∷◌, length, get_or, Some, None, Option, sym, refl, ap, arith}
use Rattle.std.proofs.lemmas.Bool.{ne_eqb}
use Rattle.commands.specs.Commands.{is_number, number_in}
use Rattle.commands.specs.Reading.{number_of, numbers_in}

-- what two readings give together
no_first : (a b d : Bool) (u v : ℕ) → None ≡ cond b (Some u) None → ◌≡◌ {A = Option (ℕ × ℕ)} None (cond (a && b && d) (Some (u, v)) None)
no_first true true d u v h = absurd (let z : ◌≡◌ {A = ℕ} 0 1 = cc in omega arith)
no_first true false d u v h = refl
no_first false b d u v h = refl

no_second : (a b d : Bool) (u v : ℕ) → None ≡ cond d (Some v) None → ◌≡◌ {A = Option (ℕ × ℕ)} None (cond (a && b && d) (Some (u, v)) None)
no_second true true true u v h = absurd (let z : ◌≡◌ {A = ℕ} 0 1 = cc in omega arith)
no_second true true false u v h = refl
no_second true false d u v h = refl
no_second false b d u v h = refl

both : (b d : Bool) (u v x y : ℕ) → Some x ≡ cond b (Some u) None → Some y ≡ cond d (Some v) None → ◌≡◌ {A = Option (ℕ × ℕ)} (Some (x, y)) (cond (b && d) (Some (u, v)) None)
both true true u v x y h k = let first : x ≡ u = cc in let second : y ≡ v = cc in rw (first, second)
both true false u v x y h k = absurd (let z : ◌≡◌ {A = ℕ} 0 1 = cc in omega arith)
both false d u v x y h k = absurd (let z : ◌≡◌ {A = ℕ} 0 1 = cc in omega arith)

too_many : (p q r s : List ℕ) (more : List (List ℕ)) → None ≡ numbers_in (p ∷ q ∷ r ∷ s ∷ more)
too_many p q r s more =
    sym
    (ap (λ t. cond (t && is_number q && is_number r) (Some (number_in q, number_in r)) None)
    (ne_eqb (length (p ∷ q ∷ r ∷ s ∷ more)) 3 (λ e. omega (arith, e))))

-- the numbers of a line, by its fields as they come
pub one_field : (fields : List (List ℕ)) (p : List ℕ) (rest : List (List ℕ)) → fields ≡ p ∷ rest → rest ≡ [] → None ≡ numbers_in fields
one_field fields p rest e none = rw (e, none)

pub first_refused : (fields : List (List ℕ)) (p q : List ℕ) (rest left : List (List ℕ)) → fields ≡ p ∷ rest → rest ≡ q ∷ left → None ≡ number_of q → None ≡ numbers_in fields
first_refused fields p q rest left e f none = rw (e, f) (no_first (eqb (length (p ∷ q ∷ left)) 3) (is_number q) (is_number (get_or left 0 [])) (number_in q) (number_in (get_or left 0 [])) none)

pub two_fields : (fields : List (List ℕ)) (p q : List ℕ) (rest left : List (List ℕ)) → fields ≡ p ∷ rest → rest ≡ q ∷ left → left ≡ [] → None ≡ numbers_in fields
two_fields fields p q rest left e f none = rw (e, f, none)

-- there are three fields or more
pub record Three (fields : List (List ℕ)) (q r : List ℕ) (others : List (List ℕ)) : Type 0 where
  pub letter : List ℕ
  pub are : fields ≡ letter ∷ q ∷ r ∷ others

pub three : (fields : List (List ℕ)) (p q r : List ℕ) (rest left others : List (List ℕ)) → fields ≡ p ∷ rest → rest ≡ q ∷ left → left ≡ r ∷ others → Three fields q r others
three fields p q r rest left others e f g = record { letter = p; are = rw (e, f, g) }

pub second_refused : (fields : List (List ℕ)) (q r : List ℕ) (others : List (List ℕ)) → Three fields q r others → None ≡ number_of r → None ≡ numbers_in fields
second_refused fields q r others h none =
    let e = h.are in
    rw e (no_second (eqb (length (h.letter ∷ q ∷ r ∷ others)) 3) (is_number q) (is_number r) (number_in q) (number_in r) none)

pub four_fields : (fields : List (List ℕ)) (q r s : List ℕ) (others more : List (List ℕ)) → Three fields q r others → others ≡ s ∷ more → None ≡ numbers_in fields
four_fields fields q r s others more h f = let e = h.are in rw (e, f) (too_many h.letter q r s more)

pub both_read : (fields : List (List ℕ)) (q r : List ℕ) (others : List (List ℕ)) (x y : ℕ) → Three fields q r others → others ≡ [] → Some x ≡ number_of q → Some y ≡ number_of r → Some (x, y) ≡ numbers_in fields
both_read fields q r others x y h none first second = let e = h.are in rw (e, none) (both (is_number q) (is_number r) (number_in q) (number_in r) x y first second)
