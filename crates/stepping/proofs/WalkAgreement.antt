-- "Going from the start to the end yields, on every plan that the unit work also finishes, just its last list" (document 02, S-8); with a SHOW the
-- "agreement is then between its results cut, sorted and freed of repeats, and the last list" (S-11).
use Rattle.stepping.proofs.Prelude.{◌≡◌, sym, subst, ◌↔◌, List, List-as-Memᴰ, ℕ, suc, arith, members, cut_list, decided_true, subset_le, rising_ext}
use Rattle.stepping.proofs.Prelude.{members_at, members_has, members_rising, Fitting, Plan, Accepted, reading, ReadPlan, record_fits, Settles, settled}
use Rattle.stepping.proofs.Prelude.{decides_settled, last_in, ListsComplete, Promised, Listing, lays_read, lays_accepted, listable_lists, Some}
use Rattle.stepping.proofs.Prelude.{None, Behind, from_start, LeastOf, least, none, Option, walk_of, walk_at, walk_has, Follows, position}
use Rattle.stepping.proofs.Prelude.{none_left, may_be_up, Walked, ends, goes, Ok}
use Rattle.atoms.proofs.Cuts.{cut_rising, cut_of_list}
use Rattle.finding.specs.Walk.{Walk, ends as Walk-Ends, goes as walk_goes}
use Rattle.stepping.proofs.Nexts.{follows_only, found_follows, none_follows, settled_within, followed_follows}

-- ---- a walk by results is a walk along the answer sets

follows_found : {p : Plan} {from : Option ℕ} {M : ℕ} → Follows p from (Ok (Some M)) → LeastOf (λ N. Settles p N × Behind from N) (Some M)
follows_found (position s b l) = least (s, b) (λ N q. l N q.0 q.1)

follows_none : {p : Plan} {from : Option ℕ} → Follows p from (Ok None) → LeastOf (λ N. Settles p N × Behind from N) None
follows_none (none_left n) = none (λ N q. n N q.0 q.1)

module _ (bytes : List ℕ) (accepted : (reading bytes).outcome ≡ Accepted) where
  walked_walk : {from : Option ℕ} {xs : List ℕ} → Walked bytes from xs → Walk (Settles (reading bytes).plan) from xs
  walked_walk {from} (ends e) = Walk-Ends (follows_none (subst (Follows (reading bytes).plan from) e (followed_follows bytes from accepted)))
  walked_walk {from} (goes e w) =
      walk_goes (follows_found (subst (Follows (reading bytes).plan from) e (followed_follows bytes from accepted))) (walked_walk w)

  walk_walked : {from : Option ℕ} {xs : List ℕ} → Walk (Settles (reading bytes).plan) from xs → Walked bytes from xs
  walk_walked {from} (Walk-Ends l) = ends (follows_only (followed_follows bytes from accepted) (none_follows l))
  walk_walked {from} (walk_goes l w) = goes (follows_only (followed_follows bytes from accepted) (found_follows l)) (walk_walked w)

-- ---- there is a walk, whatever the units and however many answer sets

all_walked : (p : Plan) → Fitting p → Walk (Settles p) None (members (settled p) (suc (may_be_up p)))
all_walked p f =
    walk_of None (members (settled p) (suc (may_be_up p))) (members_rising (settled p) (suc (may_be_up p)))
    (λ M m. ((decides_settled p M f).yes (members_at (settled p) (suc (may_be_up p)) M m).1, from_start))
    (λ M q b. members_has (settled p) (suc (may_be_up p)) M (omega (arith, subset_le (settled_within p M q))) (decided_true (decides_settled p M f) q))

pub walk_there : (bytes : List ℕ) → (reading bytes).outcome ≡ Accepted → (xs : List ℕ) × Walked bytes None xs
walk_there bytes e =
    (members (settled (reading bytes).plan) (suc (may_be_up (reading bytes).plan)), walk_walked bytes e (all_walked (reading bytes).plan (record_fits bytes)))

-- ---- every walk, cut, is the last list

walk_members : (p : Plan) {xs : List ℕ} → Walk (Settles p) None xs → (M : ℕ) → List-as-Memᴰ M xs ↔ Settles p M
walk_members p w M = (walk_at w M, λ q. walk_has w M q from_start)

walk_yields : {p : Plan} {r : Listing} {table xs : List ℕ} → ListsComplete p r table → Walk (Settles p) None xs
    → cut_list p.once.shown.word xs ≡ last_in r table
walk_yields {p} {r} {table} {xs} l w =
    let cuts = cut_of_list p.once.shown.word xs (walk_members p w) in
    rising_ext (cut_list p.once.shown.word xs) (last_in r table) (cut_rising p.once.shown.word xs) l.rising (λ X m. (l.members X).1 ((cuts X).0 m))
    (λ X m. (cuts X).1 ((l.members X).0 m))

pub walk_is_last : (bytes table : List ℕ) {r : Listing} {table' : List ℕ} → Promised bytes table r table' → r.outcome ≡ Accepted → {xs : List ℕ}
    → Walked bytes None xs → cut_list (reading bytes).plan.once.shown.word xs ≡ last_in r table'
walk_is_last bytes table {r} {table'} h e w =
    let k = h.demand_1.accepts.0 e in
    let lists : ListsComplete (reading bytes).plan r table' =
    subst (λ (x : ReadPlan). ListsComplete x.plan r table') (sym (lays_read k.1.1.lays)) (listable_lists h.demand_3 k.1.1 k.0) in
    walk_yields lists (walked_walk bytes (lays_accepted k.1.1.lays) w)
