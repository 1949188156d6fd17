-- A state is reached: what the walk has shown so far stays true.
use Rattle.std.proofs.Common.{◌≡◌, ℕ, ◌+◌, ◌<◌, ◌≤◌, Bool, true, false, cond, not, ◌⊎◌, List, length, get_or, set, sym, refl, ◌∙◌, subst, inr, ⊎_elim, arith, below_more}
use Rattle.std.proofs.lemmas.List.{length-set, get_or-set_same, get_or-set_other}
use Rattle.std.proofs.lemmas.Bool.{cases_Bool, cases_lt, and_parts, and_cases, not-true, not-false, both_ways}
use Rattle.plan.specs.Model.{Model}
use Rattle.plan.specs.Runs.{Step, Unmarked}
use Rattle.plan.specs.Runs.Leads.{by_step, through}
use Rattle.walk.specs.Walking.{In, LedTo, Work, Room, is_fresh, after_reaching, Progress, Expanding}
use Rattle.walk.proofs.Absent.{absent_less}
use Rattle.walk.proofs.Sets.{in_new, in_old, in_cases}

-- where a state was never in the queue there is a place for it
pub place_left : (n : ℕ) (w : Work) (t : ℕ) → Room n w → t < n → get_or w.queued t false ≡ false → w.len < length w.queue
place_left n w t room low out =
    omega (arith, absent_less n w.queued t low (omega (arith, room.queued_long)) out, room.places, room.queue_long)

-- the work where t goes into the queue, and where it does not
abbrev with_queue : Work → ℕ → Work
with_queue w t = record { reached = set w.reached t true; queued = set w.queued t true; queue = set w.queue w.len t; len = w.len + 1 }

abbrev without_queue : Work → ℕ → Work
without_queue w t = record { reached = set w.reached t true; queued = w.queued; queue = w.queue; len = w.len }

by_fresh : (m : Model) (w : Work) (t : ℕ) (P : Work → Type 0)
    → (Unmarked m t → get_or w.queued t false ≡ false → P (with_queue w t))
    → ((Unmarked m t → In w.queued t) → P (without_queue w t))
    → P (after_reaching m w t)
by_fresh m w t P fresh stale =
    let at : Bool → Work = λ v. record {
      reached = set w.reached t true;
      queued = cond v (set w.queued t true) w.queued;
      queue = cond v (set w.queue w.len t) w.queue;
      len = cond v (w.len + 1) w.len;
    } in
    ⊎_elim
    (λ (yes-fresh : is_fresh m w t ≡ true).
    let parts = and_parts (not (m.mark t)) (not (get_or w.queued t false)) yes-fresh in
    subst (λ v. P (at v)) (sym yes-fresh) (fresh (not-true (m.mark t) parts.0) (not-true (get_or w.queued t false) parts.1)))
    (λ (not-fresh : is_fresh m w t ≡ false).
    subst (λ v. P (at v)) (sym not-fresh)
    (stale (λ unmarked.
    ⊎_elim
    (λ (marked : not (m.mark t) ≡ false). absurd (both_ways (m.mark t) unmarked (not-false (m.mark t) marked)))
    (λ (was : not (get_or w.queued t false) ≡ false). not-false (get_or w.queued t false) was)
    (and_cases (not (m.mark t)) (not (get_or w.queued t false)) not-fresh))))
    (cases_Bool (is_fresh m w t))

-- there is still room
pub room_after : (m : Model) (w : Work) (t : ℕ) → Room m.states w → t < m.states → Room m.states (after_reaching m w t)
room_after m w t room low =
    by_fresh m w t (Room m.states)
    (λ unmarked out. record {
      reached_long = omega (arith, room.reached_long, length-set w.reached t true);
      queued_long = omega (arith, room.queued_long, length-set w.queued t true);
      queue_long = omega (arith, room.queue_long, length-set w.queue w.len t);
      places = omega (arith, room.places, absent_less m.states w.queued t low (omega (arith, room.queued_long)) out);
    })
    (λ stale. record {
      reached_long = omega (arith, room.reached_long, length-set w.reached t true);
      queued_long = room.queued_long;
      queue_long = room.queue_long;
      places = room.places;
    })

module _ (m : Model) (first : List Bool) (w : Work) (at i t : ℕ) (room : Room m.states w) (below : t < m.states)
    (expanding : Expanding m first w at i) (step : Step m (get_or w.queue at 0) t) where
  -- the first states lead to t
  led : LedTo m first t
  led =
      ⊎_elim
      (λ (here : In first (get_or w.queue at 0)). (get_or w.queue at 0, here, by_step step))
      (λ (on : LedTo m first (get_or w.queue at 0) × Unmarked m (get_or w.queue at 0)). (on.0.0, on.0.1, through on.0.2 on.1 step))
      (expanding.progress.queue_true at expanding.standing)

  marks_more : (u : ℕ) → In (set w.reached t true) u → LedTo m first u
  marks_more u there =
      ⊎_elim
      (λ (same : u ≡ t). subst (LedTo m first) (sym same) led)
      (λ (old : In w.reached u). expanding.progress.marks_true u old)
      (in_cases w.reached t u there)

  stale_more : (Unmarked m t → In w.queued t) → Progress m first (without_queue w t) at
  stale_more stale = record {
    marks_true = marks_more;
    queue_true = expanding.progress.queue_true;
    queued_stand = expanding.progress.queued_stand;
    first_queued = expanding.progress.first_queued;
    reached_queued = λ u there unmarked.
        ⊎_elim
        (λ (same : u ≡ t). subst (In w.queued) (sym same) (stale (subst (Unmarked m) same unmarked)))
        (λ (old : In w.reached u). expanding.progress.reached_queued u old unmarked)
        (in_cases w.reached t u there);
    expanded = λ k low v h. in_old w.reached t v (expanding.progress.expanded k low v h);
  }

  -- the places in use stay as they are
  kept_place : (k : ℕ) → k < w.len → get_or (set w.queue w.len t) k 0 ≡ get_or w.queue k 0
  kept_place k low = get_or-set_other w.queue w.len k t 0 (λ e. omega (arith, e))

  fresh_more : Unmarked m t → get_or w.queued t false ≡ false → Progress m first (with_queue w t) at
  fresh_more unmarked out =
      let place : w.len < length w.queue = place_left m.states w t room below out in
      let new_place : get_or (set w.queue w.len t) w.len 0 ≡ t = get_or-set_same w.queue w.len t 0 place in
      let right : ℕ → Type 0 = λ x. (In first x) ⊎ (LedTo m first x × Unmarked m x) in
      record {
        marks_true = marks_more;
        queue_true = λ k low.
            ⊎_elim
            (λ (old : k < w.len). subst right (sym (kept_place k old)) (expanding.progress.queue_true k old))
            (λ (last : w.len ≤ k).
            let e : w.len ≡ k = omega arith in
            subst (λ j. right (get_or (set w.queue w.len t) j 0)) e (subst right (sym new_place) (inr (led, unmarked))))
            (cases_lt k w.len);
        queued_stand = λ u there.
            ⊎_elim
            (λ (same : u ≡ t). (w.len, omega arith, new_place ∙ sym same))
            (λ (old : In w.queued u).
            let before = expanding.progress.queued_stand u old in
            (before.0, omega (arith, before.1), kept_place before.0 before.1 ∙ before.2))
            (in_cases w.queued t u there);
        first_queued = λ s low there. in_old w.queued t s (expanding.progress.first_queued s low there);
        reached_queued = λ u there un.
            ⊎_elim
            (λ (same : u ≡ t). subst (In (set w.queued t true)) (sym same) (in_new w.queued t (omega (arith, room.queued_long))))
            (λ (old : In w.reached u). in_old w.queued t u (expanding.progress.reached_queued u old un))
            (in_cases w.reached t u there);
        expanded = λ k low v h.
            in_old w.reached t v
            (expanding.progress.expanded k low v (subst (λ x. Step m x v) (kept_place k (omega (arith, expanding.standing))) h));
      }

  -- the queue's place `at` stays
  pub at_stays : get_or (after_reaching m w t).queue at 0 ≡ get_or w.queue at 0
  at_stays = by_fresh m w t (λ v. get_or v.queue at 0 ≡ get_or w.queue at 0) (λ _ _. kept_place at expanding.standing) (λ _. refl)

  -- step i is reached
  pub expanding_more : get_or (m.steps (get_or w.queue at 0)) i 0 ≡ t → Expanding m first (after_reaching m w t) at (i + 1)
  expanding_more is =
      let steps_at : List ℕ = m.steps (get_or w.queue at 0) in
      let far : (j : ℕ) → j < i + 1 → In (set w.reached t true) (get_or steps_at j 0) =
      below_more (λ j. In (set w.reached t true) (get_or steps_at j 0)) i
      (λ j low. in_old w.reached t (get_or steps_at j 0) (expanding.so_far j low))
      (subst (In (set w.reached t true)) (sym is) (in_new w.reached t (omega (arith, room.reached_long)))) in
      by_fresh m w t (λ v. Expanding m first v at (i + 1))
      (λ unmarked out. record {
        progress = fresh_more unmarked out;
        standing = omega (arith, expanding.standing);
        so_far = λ j low.
            subst (λ x. In (set w.reached t true) (get_or (m.steps x) j 0)) (sym (kept_place at expanding.standing)) (far j low);
      })
      (λ stale. record { progress = stale_more stale; standing = expanding.standing; so_far = far })
