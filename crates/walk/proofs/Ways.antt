-- From the first states to the end of a walk.
use Rattle.std.proofs.Common.{◌≡◌, ℕ, ◌+◌, ◌<◌, ◌≤◌, Bool, true, false, ◌≢◌, List, length, get_or, set, sym, refl, ap, ◌∙◌, subst, ⊎_elim, arith}
use Rattle.std.proofs.lemmas.List.{length-set, get_or-set_same, get_or-set_other}
use Rattle.std.proofs.lemmas.Bool.{cases_Bool, cases_eq, cases_lt, both_ways}
use Rattle.plan.specs.Model.{Model, Lawful}
use Rattle.plan.specs.Runs.{Step, Leads}
use Rattle.plan.specs.Runs.Leads.{by_step, through}
use Rattle.walk.specs.Walking.{In, Walked, OnlyOne, LeadsInto, Work, Progress, Expanding, Spread, Loaded, Walking, after_reaching}
use Rattle.walk.proofs.Absent.{absent_less, absent_most}
use Rattle.walk.proofs.Sets.{in_new, in_old, in_cases}
use Rattle.walk.proofs.Reaching.{room_after, at_stays, expanding_more}

-- one step more
pub spread_more : (m : Model) (state i t : ℕ) (w v : Work) → Lawful m → i < length (m.steps state) → t ≡ get_or (m.steps state) i 0
    → Spread m state i w v → Spread m state (i + 1) w (after_reaching m v t)
spread_more m state i t w v laws low is spread =
    let below : t < m.states = subst (λ k. k < m.states) (sym is) (laws.inside state i low) in
    record {
      room_stays = room_after m v t spread.room_stays below;
      spreads = λ first at here expanding.
          let before = spread.spreads first at here expanding in
          let step : Step m (get_or v.queue at 0) t = subst (λ s. Step m s t) (sym before.1) (i, low, sym is) in
          let named : get_or (m.steps (get_or v.queue at 0)) i 0 ≡ t = ap (λ s. get_or (m.steps s) i 0) before.1 ∙ sym is in (
            expanding_more m first v at i t spread.room_stays below before.0 step named,
            at_stays m first v at i t spread.room_stays below before.0 step ∙ before.1,
          );
    }

-- before the first state is put into the queue
pub load_none : (n : ℕ) (first queued : List Bool) (queue : List ℕ) → n ≤ length queued → n ≤ length queue
    → ((k : ℕ) → get_or queued k false ≡ false) → Loaded n first queued queue 0 0
load_none n first queued queue long long' none = record {
  queued_there = long;
  queue_there = long';
  places_left = omega (arith, absent_most n queued);
  loaded_true = λ k low. absurd (omega (arith, low));
  loaded_low = λ u there. absurd (both_ways (get_or queued u false) (none u) there);
  loaded_stand = λ u there. absurd (both_ways (get_or queued u false) (none u) there);
  loaded_first = λ s low. absurd (omega (arith, low));
}

module _ (n : ℕ) (first queued : List Bool) (queue : List ℕ) (len i : ℕ) (loaded : Loaded n first queued queue len i) (low : i < n) where
  -- a state that is none of the first ones
  pub load_other : (In first i → ⊥) → Loaded n first queued queue len (i + 1)
  load_other other = record {
    queued_there = loaded.queued_there;
    queue_there = loaded.queue_there;
    places_left = loaded.places_left;
    loaded_true = loaded.loaded_true;
    loaded_low = λ u there. omega (arith, loaded.loaded_low u there);
    loaded_stand = loaded.loaded_stand;
    loaded_first = λ s below there.
        ⊎_elim
        (λ (same : s ≡ i). absurd (other (subst (In first) same there)))
        (λ (earlier : s ≢ i). loaded.loaded_first s (omega (arith, earlier)) there)
        (cases_eq s i);
  }

  -- state i is not in the queue yet
  not_yet : get_or queued i false ≡ false
  not_yet =
      ⊎_elim
      (λ (there : get_or queued i false ≡ true). absurd (omega (arith, loaded.loaded_low i there)))
      (λ h. h)
      (cases_Bool (get_or queued i false))

  -- so there is a place for it
  pub load_place : len < length queue
  load_place = omega (arith, absent_less n queued i low (omega (arith, loaded.queued_there)) not_yet, loaded.places_left, loaded.queue_there)

  pub load_more : In first i → Loaded n first (set queued i true) (set queue len i) (len + 1) (i + 1)
  load_more here =
      let kept_place : (k : ℕ) → k < len → get_or (set queue len i) k 0 ≡ get_or queue k 0 = λ k below. get_or-set_other queue len k i 0 (λ e. omega (arith, e)) in
      let new_place : get_or (set queue len i) len 0 ≡ i = get_or-set_same queue len i 0 load_place in
      record {
        queued_there = omega (arith, loaded.queued_there, length-set queued i true);
        queue_there = omega (arith, loaded.queue_there, length-set queue len i);
        places_left = omega (arith, loaded.places_left, absent_less n queued i low (omega (arith, loaded.queued_there)) not_yet);
        loaded_true = λ k below.
            ⊎_elim
            (λ (old : k < len). subst (In first) (sym (kept_place k old)) (loaded.loaded_true k old))
            (λ (last : len ≤ k).
            let e : len ≡ k = omega arith in
            subst (λ j. In first (get_or (set queue len i) j 0)) e (subst (In first) (sym new_place) here))
            (cases_lt k len);
        loaded_low = λ u there.
            ⊎_elim
            (λ (same : u ≡ i). omega arith)
            (λ (old : In queued u). omega (arith, loaded.loaded_low u old))
            (in_cases queued i u there);
        loaded_stand = λ u there.
            ⊎_elim
            (λ (same : u ≡ i). (len, omega arith, new_place ∙ sym same))
            (λ (old : In queued u).
            let before = loaded.loaded_stand u old in
            (before.0, omega (arith, before.1), kept_place before.0 before.1 ∙ before.2))
            (in_cases queued i u there);
        loaded_first = λ s below there.
            ⊎_elim
            (λ (same : s ≡ i). subst (In (set queued i true)) (sym same) (in_new queued i (omega (arith, loaded.queued_there))))
            (λ (earlier : s ≢ i). in_old queued i s (loaded.loaded_first s (omega (arith, earlier)) there))
            (cases_eq s i);
      }

module _ (m : Model) (laws : Lawful m) (first : List Bool) where
  -- one state more is expanded
  walking_more : (w v : Work) (done : ℕ) → Walking m first w done → done < w.len
      → Spread m (get_or w.queue done 0) (length (m.steps (get_or w.queue done 0))) w v → Walking m first v (done + 1)
  walking_more w v done walking low spread =
      let before : Expanding m first w done 0 = record { progress = walking.come_so_far; standing = low; so_far = λ j h. absurd (omega (arith, h)) } in
      let after = spread.spreads first done refl before in
      record {
        has_room = spread.room_stays;
        come_so_far = record {
          marks_true = after.0.progress.marks_true;
          queue_true = after.0.progress.queue_true;
          queued_stand = after.0.progress.queued_stand;
          first_queued = after.0.progress.first_queued;
          reached_queued = after.0.progress.reached_queued;
          expanded = λ k below t h.
              ⊎_elim
              (λ (earlier : k < done). after.0.progress.expanded k earlier t h)
              (λ (last : done ≤ k).
              let e : k ≡ done = omega arith in
              let h' : Step m (get_or v.queue done 0) t = subst (λ j. Step m (get_or v.queue j 0) t) e h in
              let long : h'.0 < length (m.steps (get_or w.queue done 0)) = subst (λ s. h'.0 < length (m.steps s)) after.1 h'.1 in
              subst (In v.reached) h'.2 (after.0.so_far h'.0 long))
              (cases_lt k done);
        };
        not_past = omega (arith, after.0.standing);
      }

  -- the same where what is named otherwise is equal
  pub walking_next : (w n v : Work) (done next state : ℕ) → Walking m first w done → done < w.len → n ≡ w → next ≡ done + 1 → state ≡ get_or w.queue done 0
      → Spread m state (length (m.steps state)) n v → Walking m first v next
  walking_next w n v done next state walking low same one_more here spread =
      subst (Walking m first v) (sym one_more)
      (walking_more w v done walking low
      (subst (λ s. Spread m s (length (m.steps s)) w v) here (subst (λ x. Spread m state (length (m.steps state)) x v) same spread)))

  -- all are expanded: what the first states lead to is reached
  all_reached : (w : Work) (done : ℕ) → Progress m first w done → w.len ≤ done → (s t : ℕ) → In first s → Leads m s t → In w.reached t
  all_reached w done progress end s t there (by_step h) =
      let low : s < m.states =
      ⊎_elim
      (λ (x : s < m.states). x)
      (λ (high : m.states ≤ s). absurd (omega (arith, h.1, ap length (laws.no_steps_past s high))))
      (cases_lt s m.states) in
      let stands = progress.queued_stand s (progress.first_queued s low there) in
      progress.expanded stands.0 (omega (arith, stands.1)) t (subst (λ x. Step m x t) (sym stands.2) h)
  all_reached w done progress end s t there (through {u = u} l unmarked h) =
      let stands = progress.queued_stand u (progress.reached_queued u (all_reached w done progress end s u there l) unmarked) in
      progress.expanded stands.0 (omega (arith, stands.1)) t (subst (λ x. Step m x t) (sym stands.2) h)

  pub walked_all : (w : Work) (done : ℕ) → Walking m first w done → w.len ≤ done → Walked m first w.reached
  walked_all w done walking end t = (
    walking.come_so_far.marks_true t,
    λ led. all_reached w done walking.come_so_far end led.0 t led.1 led.2,
  )

-- the same under other names
pub loaded_at : (n i : ℕ) (first queued queued' : List Bool) (queue queue' : List ℕ) (len len' : ℕ) → queued' ≡ queued → queue' ≡ queue → len' ≡ len
    → Loaded n first queued queue len i → Loaded n first queued' queue' len' i
loaded_at n i first queued queued' queue queue' len len' a b d loaded =
    subst (λ x. Loaded n first queued' queue' x i) (sym d)
    (subst (λ x. Loaded n first queued' x len i) (sym b) (subst (λ x. Loaded n first x queue len i) (sym a) loaded))

-- a state that leads anywhere is a state of the plan
pub leads_from_below : (m : Model) → Lawful m → (s t : ℕ) → Leads m s t → s < m.states
leads_from_below m laws s t (by_step h) =
    ⊎_elim
    (λ (low : s < m.states). low)
    (λ (high : m.states ≤ s). absurd (omega (arith, h.1, ap length (laws.no_steps_past s high))))
    (cases_lt s m.states)
leads_from_below m laws s t (through {u = u} l unmarked h) = leads_from_below m laws s u l

-- a walk from the set of one state
pub from_one : (m : Model) → Lawful m → (s : ℕ) (first reached : List Bool) → OnlyOne s first → Walked m first reached → LeadsInto m s reached
from_one m laws s first reached one walked t = (
  λ there.
      let led = (walked t).0 there in
      subst (λ u. Leads m u t) ((one led.0).0 led.1).0 led.2,
  λ leads. (walked t).1 (s, (one s).1 (refl, omega (arith, leads_from_below m laws s t leads, laws.few)), leads),
)
