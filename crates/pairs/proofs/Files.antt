-- What a pair file answers by itself.
use Rattle.std.proofs.Common.{◌≡◌, ℕ, zero, suc, ◌<◌, ◌≤◌, Bool, true, false, not, List, Some, None, Option, sym, refl, arith}
use Rattle.std.specs.Option.{MatchOption}
use Rattle.plan.specs.declared.answer.Answer.{Answer}
use Rattle.plan.specs.Answers.{refusal_at}
use Rattle.layout.specs.Lowest.{Lowest, lowest}
use Rattle.layout.proofs.LowestOf.{lowest_is, lowest_none}
use Rattle.pairs.specs.PairFile.{FramePasses, InOrder, count_in, out_of_order, file_asked}

-- the lowest row that is out of order is refused
pub order_refused : (b : List ℕ) (i : ℕ) → FramePasses b → Lowest (out_of_order b) (count_in b) i → (next : Answer) → refusal_at 7 i ≡ file_asked b next
order_refused b i frame low next =
    let at : lowest (out_of_order b) (count_in b) ≡ Some i = lowest_is (out_of_order b) (count_in b) i low in
    sym (rw (frame.length_passes, frame.sign_passes, frame.count_passes, frame.rows_pass, at) refl)

-- a file that passes is asked on
pub asked_on : (b : List ℕ) → FramePasses b → InOrder b (count_in b) → (next : Answer) → file_asked b next ≡ next
asked_on b frame in_order next =
    let none : lowest (out_of_order b) (count_in b) ≡ None = lowest_none (out_of_order b) (count_in b) in_order in
    rw (frame.length_passes, frame.sign_passes, frame.count_passes, frame.rows_pass, none) refl

in_order : (v : Bool) → true ≡ not v → v ≡ false
in_order true h = h
in_order false h = refl

out_of : (v : Bool) → false ≡ not v → v ≡ true
out_of true h = refl
out_of false h = h

-- row 0 is never out of order
from_next : (b : List ℕ) (n : ℕ) → ((k : ℕ) → 1 ≤ k → k < n → true ≡ not (out_of_order b k)) → (k : ℕ) → k < n → out_of_order b k ≡ false
from_next b n above zero low = refl
from_next b n above (suc k) low = in_order (out_of_order b (suc k)) (above (suc k) (omega arith) low)

-- the first row from row 1 on that is out of order is the lowest
pub lowest_from_first :
    (b : List ℕ) (n : ℕ) (r : Option ℕ) → n ≡ count_in b
    → MatchOption r ((k : ℕ) → 1 ≤ k → k < n → true ≡ not (out_of_order b k))
    (λ i. (1 ≤ i) × (i < n) × (false ≡ not (out_of_order b i)) × ((k : ℕ) → 1 ≤ k → k < i → true ≡ not (out_of_order b k)))
    → MatchOption r (InOrder b (count_in b)) (Lowest (out_of_order b) (count_in b))
lowest_from_first b n None count none = λ k low. from_next b n none k (omega arith)
lowest_from_first b n (Some i) count first =
    record { below = omega (arith, first.1); passes = out_of (out_of_order b i) first.2; none_lower = from_next b i first.3 }
