-- Which command a line says, by its letter and its numbers.
use Rattle.std.proofs.Common.{◌≡◌, ℕ, ◌≤◌, Bool, true, false, cond, ◌&&◌, eqb, List, [], ◌∷◌, length, get_or, Some, None, sym, refl, ap, ◌∙◌, ⊎_elim, arith}
use Rattle.std.proofs.lemmas.Bool.{and_right, cases_eq, cases_Bool, eqb-true, ne_eqb, cond-false}
use Rattle.commands.specs.declared.command.Command.{Command}
use Rattle.commands.specs.declared.command.Command.TheVariants.{Add, Strike, Load, Unknown}
use Rattle.commands.specs.Lines.{in_front, fields_of}
use Rattle.commands.specs.Commands.{is_number, number_in, is_letter, is_pair_line, command_in}
use Rattle.commands.specs.Reading.{numbers_in, made_of, command_by}

-- the last two of three fields are numbers
abbrev has_numbers : List (List ℕ) → Bool
has_numbers fields = eqb (length fields) 3 && is_number (get_or fields 1 []) && is_number (get_or fields 2 [])

-- what a line of a letter and two numbers says, were it the letter of this command
abbrev says : (ℕ → ℕ → Command) → List (List ℕ) → Command
says make fields = make (number_in (get_or fields 1 [])) (number_in (get_or fields 2 []))

and_true : (b : Bool) → (b && true) ≡ b
and_true true = refl
and_true false = refl

-- with the right letter, only the numbers matter
right_letter : (letter : ℕ) (fields : List (List ℕ)) → is_letter letter (get_or fields 0 []) ≡ true → is_pair_line letter fields ≡ has_numbers fields
right_letter letter fields h =
    ap (λ t. eqb (length fields) 3 && t && is_number (get_or fields 1 []) && is_number (get_or fields 2 [])) h
    ∙ ap (λ t. t && is_number (get_or fields 1 []) && is_number (get_or fields 2 [])) (and_true (eqb (length fields) 3))

-- with another letter, nothing does
wrong_letter : (letter : ℕ) (fields : List (List ℕ)) → is_letter letter (get_or fields 0 []) ≡ false → is_pair_line letter fields ≡ false
wrong_letter letter fields h =
    ap (λ t. eqb (length fields) 3 && t && is_number (get_or fields 1 []) && is_number (get_or fields 2 [])) h
    ∙ ap (λ t. t && is_number (get_or fields 1 []) && is_number (get_or fields 2 [])) (and_right (eqb (length fields) 3) false refl)

-- the command that is made of the numbers of a line
made_is : (b : Bool) (u v : ℕ) (make : ℕ → ℕ → Command) → made_of make (cond b (Some (u, v)) None) ≡ cond b (make u v) Unknown
made_is true u v make = refl
made_is false u v make = refl

-- what a line says that does not add, and one that does not strike either
abbrev past_strike : List (List ℕ) → Command
past_strike fields = cond (eqb (length fields) 1 && is_letter 112 (get_or fields 0 [])) Load Unknown

abbrev past_add : List (List ℕ) → Command
past_add fields = cond (is_pair_line 115 fields) (says Strike fields) (past_strike fields)

not_load : (fields : List (List ℕ)) → is_letter 112 (get_or fields 0 []) ≡ false → past_strike fields ≡ Unknown
not_load fields h = cond-false _ Load Unknown (and_right (eqb (length fields) 1) (is_letter 112 (get_or fields 0 [])) h)

not_strike : (fields : List (List ℕ)) → is_letter 115 (get_or fields 0 []) ≡ false → past_add fields ≡ past_strike fields
not_strike fields h = cond-false (is_pair_line 115 fields) (says Strike fields) (past_strike fields) (wrong_letter 115 fields h)

not_add : (fields : List (List ℕ)) → is_letter 97 (get_or fields 0 []) ≡ false → command_in fields ≡ past_add fields
not_add fields h = cond-false (is_pair_line 97 fields) (says Add fields) (past_add fields) (wrong_letter 97 fields h)

-- by the letter
pub unknown :
    (fields : List (List ℕ)) → is_letter 97 (get_or fields 0 []) ≡ false → is_letter 115 (get_or fields 0 []) ≡ false → is_letter 112 (get_or fields 0 []) ≡ false
    → Unknown ≡ command_in fields
unknown fields a s p = sym (not_add fields a ∙ not_strike fields s ∙ not_load fields p)

added :
    (fields : List (List ℕ)) → is_letter 97 (get_or fields 0 []) ≡ true → is_letter 115 (get_or fields 0 []) ≡ false → is_letter 112 (get_or fields 0 []) ≡ false
    → made_of Add (numbers_in fields) ≡ command_in fields
added fields a s p =
    made_is (has_numbers fields) (number_in (get_or fields 1 [])) (number_in (get_or fields 2 [])) Add
    ∙ ap (λ b. cond b (says Add fields) Unknown) (sym (right_letter 97 fields a))
    ∙ ap (cond (is_pair_line 97 fields) (says Add fields)) (sym (not_strike fields s ∙ not_load fields p))

struck :
    (fields : List (List ℕ)) → is_letter 97 (get_or fields 0 []) ≡ false → is_letter 115 (get_or fields 0 []) ≡ true → is_letter 112 (get_or fields 0 []) ≡ false
    → made_of Strike (numbers_in fields) ≡ command_in fields
struck fields a s p =
    made_is (has_numbers fields) (number_in (get_or fields 1 [])) (number_in (get_or fields 2 [])) Strike
    ∙ ap (λ b. cond b (says Strike fields) Unknown) (sym (right_letter 115 fields s))
    ∙ ap (cond (is_pair_line 115 fields) (says Strike fields)) (sym (not_load fields p))
    ∙ sym (not_add fields a)

loaded :
    (fields : List (List ℕ)) (alone : Bool) → is_letter 97 (get_or fields 0 []) ≡ false → is_letter 115 (get_or fields 0 []) ≡ false → is_letter 112 (get_or fields 0 []) ≡ true
    → eqb (length fields) 1 ≡ alone → cond alone Load Unknown ≡ command_in fields
loaded fields alone a s p one =
    let test : (eqb (length fields) 1 && is_letter 112 (get_or fields 0 [])) ≡ alone = ap (λ t. eqb (length fields) 1 && t) p ∙ and_true (eqb (length fields) 1) ∙ one in
    sym (not_add fields a ∙ not_strike fields s ∙ ap (λ t. cond t Load Unknown) test)

-- a line says the command of its letter
pub said :
    (fields : List (List ℕ)) (letter : ℕ) (alone : Bool) → ((c : ℕ) → is_letter c (get_or fields 0 []) ≡ eqb letter c) → eqb (length fields) 1 ≡ alone
    → command_by letter (numbers_in fields) alone ≡ command_in fields
said fields letter alone is one =
    ⊎_elim
    (λ (e : letter ≡ 97).
    let here : (c : ℕ) → is_letter c (get_or fields 0 []) ≡ eqb 97 c = λ c. is c ∙ ap (λ x. eqb x c) e in
    ap (λ x. command_by x (numbers_in fields) alone) e ∙ added fields (here 97) (here 115) (here 112))
    (λ (not_a : letter ≡ 97 → ⊥).
    ⊎_elim
    (λ (e : letter ≡ 115).
    let here : (c : ℕ) → is_letter c (get_or fields 0 []) ≡ eqb 115 c = λ c. is c ∙ ap (λ x. eqb x c) e in
    ap (λ x. command_by x (numbers_in fields) alone) e ∙ struck fields (here 97) (here 115) (here 112))
    (λ (not-s : letter ≡ 115 → ⊥).
    ⊎_elim
    (λ (e : letter ≡ 112).
    let here : (c : ℕ) → is_letter c (get_or fields 0 []) ≡ eqb 112 c = λ c. is c ∙ ap (λ x. eqb x c) e in
    ap (λ x. command_by x (numbers_in fields) alone) e ∙ loaded fields alone (here 97) (here 115) (here 112) one)
    (λ (not-p : letter ≡ 112 → ⊥).
    let a = ne_eqb letter 97 not_a in
    let s = ne_eqb letter 115 not-s in
    let p = ne_eqb letter 112 not-p in
    rw (a, s, p) (unknown fields (is 97 ∙ a) (is 115 ∙ s) (is 112 ∙ p)))
    (cases_eq letter 112))
    (cases_eq letter 115))
    (cases_eq letter 97)

-- a first field of one byte, or none before a first space
spaced : (x : ℕ) (others fields : List (List ℕ)) → fields ≡ cond (eqb x 32) ([] ∷ [] ∷ others) ((x ∷ []) ∷ others) → (length others ≡ 0 → ⊥) → command_by x (numbers_in fields) false ≡ command_in fields
spaced x others fields are some =
    ⊎_elim
    (λ (e : eqb x 32 ≡ true).
    let here : fields ≡ [] ∷ [] ∷ others = are ∙ ap (λ b. cond b ([] ∷ [] ∷ others) ((x ∷ []) ∷ others)) e in
    let space : x ≡ 32 = eqb-true x 32 e in
    ap (λ c. command_by c (numbers_in fields) false) space ∙ rw here (unknown ([] ∷ [] ∷ others) refl refl refl))
    (λ (e : eqb x 32 ≡ false).
    let here : fields ≡ (x ∷ []) ∷ others = are ∙ ap (λ b. cond b ([] ∷ [] ∷ others) ((x ∷ []) ∷ others)) e in
    rw here (said ((x ∷ []) ∷ others) x false (λ c. refl) (ne_eqb (length ((x ∷ []) ∷ others)) 1 (λ e. some (omega (arith, e))))))
    (cases_Bool (eqb x 32))

-- there is a field
some_in_front : (x : ℕ) (fields : List (List ℕ)) → length (in_front x fields) ≡ 0 → ⊥
some_in_front x [] h = omega (arith, h)
some_in_front x (field ∷ fields) h = omega (arith, h)

some_fields : (line : List ℕ) → length (fields_of line) ≡ 0 → ⊥
some_fields [] h = omega (arith, h)
some_fields (x ∷ line) h =
    ⊎_elim
    (λ (e : eqb x 32 ≡ true). let z : length ([] ∷ fields_of line) ≡ 0 = rw e at h in omega (arith, z))
    (λ (e : eqb x 32 ≡ false). some_in_front x (fields_of line) (rw e at h))
    (cases_Bool (eqb x 32))

-- a letter with a space behind it
pub letter_spaced : (line : List ℕ) → 2 ≤ length line → get_or line 1 0 ≡ 32 → command_by (get_or line 0 0) (numbers_in (fields_of line)) false ≡ command_in (fields_of line)
letter_spaced [] h space = absurd (omega (arith, h))
letter_spaced (x ∷ []) h space = absurd (omega (arith, h))
letter_spaced (x ∷ y ∷ line) h space = rw space (spaced x (fields_of line) (fields_of (x ∷ 32 ∷ line)) refl (some_fields line))
