-- The units in their order: what is worked is in the table, and what is left of the work stays the same.
use Rattle.unit_lists.proofs.Prelude.{◌≡◌, refl, sym, ◌∙◌, subst, Bool, true, false, List, [], ◌∷◌, ℕ, zero, suc, ◌≤◌, ◌<◌, arith, lt-ltb, le-ltb}
use Rattle.unit_lists.proofs.Prelude.{Has, ◌∪◌, atom, Units, Edge, Acyclic, next_unit, order_from, working_order, Ready, InOrder, all_done, next}
use Rattle.unit_lists.proofs.Prelude.{unit_list_of, work_from, unit_work, MembersStored, ListsThere, Working, UnitsWorked, work_fits, work_long}
use Rattle.dependency_graph.proofs.Order.{next_ready, order_right}
use Rattle.std.specs.Prelude.{Ok, Err}
use Rattle.unit_lists.proofs.WorkedUnits.{working_there, working_next}

-- ---- the order from what is done

order_next : (S : Units) (left done u : ℕ) → u ≡ next_unit S done → u < S.units
    → order_from S (suc left) done ≡ u ∷ order_from S left (done ∪ atom u)
unfolding order_from
order_next S left done u e l = rw (lt-ltb (next_unit S done) S.units (rw e at l), order_from) (rw e)

order_stop : (S : Units) (left done : ℕ) → S.units ≤ next_unit S done → order_from S left done ≡ []
unfolding order_from
order_stop S zero done l = refl
order_stop S (suc left) done l = rw (le-ltb (next_unit S done) S.units l, order_from)

order_end : (S : Units) (left done : ℕ) → left ≤ 0 → order_from S left done ≡ []
unfolding order_from
order_end S zero done l = refl
order_end S (suc left) done l = absurd (omega arith)

rest_order : {S : Units} {done u : ℕ} {us : List ℕ} → InOrder S done (u ∷ us) → InOrder S (done ∪ atom u) us
rest_order (next l r f rest) = rest

none_left : {S : Units} {done : ℕ} → InOrder S done [] → (u : ℕ) → u < S.units → Has done u
none_left (all_done f) = f

-- ---- one turn of the loop

-- what is done is in the table, and the work that is left is the same
pub record Turn (S : Units) (table₀ table counts : List ℕ) (done left : ℕ) : Type 0 where
  pub working : Working S done table₀ table counts
  pub order : InOrder S done (order_from S left done)
  pub rest : unit_work S table₀ ≡ work_from S table₀ (order_from S left done)

pub turn_start : {S : Units} {table₀ table counts : List ℕ} {left : ℕ} → Acyclic S → Working S 0 table₀ table counts → left ≡ S.units
    → Turn S table₀ table counts 0 left
unfolding working_order
turn_start {S} a w all = rw all (record { working = w; order = order_right S a; rest = refl })

module _ {S : Units} {table₀ table counts : List ℕ} {done left : ℕ} (t : Turn S table₀ table counts done left) where
  -- all is worked
  turn_over : order_from S left done ≡ [] → UnitsWorked S table₀ table counts (Ok tt)
  turn_over e = record {
    done = done;
    working = t.working;
    answer_is = rw e at t.rest;
    all_done = λ q. none_left (rw e at t.order);
  }

  pub turn_stop : S.units ≤ next_unit S done → UnitsWorked S table₀ table counts (Ok tt)
  turn_stop l = turn_over (order_stop S left done l)

  pub turn_end : left ≤ 0 → UnitsWorked S table₀ table counts (Ok tt)
  turn_end l = turn_over (order_end S left done l)

  module _ {u : ℕ} (e : u ≡ next_unit S done) (l : u < S.units) where
    -- the lists of the next unit's predecessors are there
    pub turn_there : ListsThere S (Edge S u) table counts
    turn_there =
        working_there t.working (Edge S u)
        (λ v h. (subst (λ (x : ℕ). x < S.units → Ready S done x) (sym e) (next_ready S done) l).predecessors_done v h)

    module _ {table' counts' : List ℕ} {fits : Bool} (m : MembersStored (unit_list_of S u) u table counts table' counts' fits) (left' : ℕ)
        (one : left ≡ suc left') where
      next-is : order_from S left done ≡ u ∷ order_from S left' (done ∪ atom u)
      next-is = rw one (order_next S left' done u e l)

      pub turn_next : fits ≡ true → Turn S table₀ table' counts' (done ∪ atom u) left'
      turn_next y = record {
        working = working_next t.working u l m y;
        order = rest_order (rw next-is at t.order);
        rest = (rw next-is at t.rest) ∙ work_fits S table₀ u (order_from S left' (done ∪ atom u)) (m.when_fits y).0;
      }

      pub turn_too_long : fits ≡ false → UnitsWorked S table₀ table' counts' (Err u)
      turn_too_long y = record {
        done = done;
        working = rw ((m.when_long y).1, (m.when_long y).2) t.working;
        answer_is = (rw next-is at t.rest) ∙ work_long S table₀ u (order_from S left' (done ∪ atom u)) (m.when_long y).0;
        all_done = λ q. let z : ◌≡◌ {A = ℕ} 0 1 = cc in absurd (omega arith);
      }
