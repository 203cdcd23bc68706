-- Whenever reading accepts bytes they are the layout of lists within the limits, and the record is theirs.
-- What each command keeps: the bytes read so far are the commands of lists within the limits, and the record is theirs.
use Rattle.reading.proofs.Prelude.{◌≡◌, refl, ap, sym, ◌∙◌, subst, List, [], ◌∷◌, ◌++◌, flat_map, false, ℕ, ◌+◌, ◌^◌}
use Rattle.reading.proofs.Prelude.{◌<◌, arith, length, drop, get_or, Has, get_or_tabulate, MAX_UNITS, empty_plan, Single, Kind, single, table, rule, usage}
use Rattle.reading.proofs.Prelude.{unit, edge, end, kind_discrete, byte_of, operand_bytes, miscounted, reading, command_bytes, Contents, Element}
use Rattle.reading.proofs.Prelude.{end_bytes, commands, predecessors_of, record_of, IsByte, All, GoodOnce, GoodTable, GoodRule, WithinLimits, IsPlan}
use Rattle.reading.proofs.Prelude.{Plan, Accepted}
use Rattle.reading.proofs.Numbers.{all_drop}
use Rattle.reading.proofs.Commands.{Leads}
use Rattle.reading.proofs.Walk.{walk_keeps}
use Rattle.reading.proofs.Limits.{record_fits}
use Rattle.reading.proofs.Predecessors.{pair, has_member}
use Rattle.reading.proofs.Elements.{nothing, with, element_at, operands_of, written_again, Sized, sized, Held, held_none, within_most, Fits}
use Rattle.reading.proofs.Elements.{commands_with, commands_longer, record_none, more}
use Rattle.reading.proofs.ElementLists.{all_snoc, all_member, empty}
use Rattle.reading.proofs.Sizes.{counted_right}

-- ---- the words, one element more

-- what is asked of the elements beyond what `Held` has
pub record Good (c : Contents) : Type 0 where
  pub good_once : (s : Single) → All (GoodOnce s) (c.once s)
  pub good_tables : All GoodTable c.tables
  pub good_rules : All GoodRule c.rules
  pub good_units : All (λ word. word < 2 ^ length c.rules) c.units

-- an element keeps its size where its kind is called by another name
sized_as : {j k : Kind} (e : j ≡ k) (x : Element j) → Sized j x → Sized k (subst Element e x)
sized_as e x z = coe 0 1 (i. Sized (e i) (coe 0 i (h. Element (e h)) x)) z

once_with : (c : Contents) (s : Single) (x : Element (single s)) → Sized (single s) x → Good c → (t : Single) → All (GoodOnce t) ((with c (single s) x).once t)
once_with c s x z g t = go (kind_discrete (single s) (single t))
  where
    go : (d : Dec (single s ≡ single t))
        → All (GoodOnce t) (elim d [ yes e ↦ c.once t ++ (subst Element e x ∷ []) | no n ↦ c.once t ])
    go (yes e) = all_snoc (GoodOnce t) (c.once t) (subst Element e x) (g.good_once t) (sized_as e x z)
    go (no n) = g.good_once t

good_with : (c : Contents) (k : Kind) (x : Element k) → Sized k x → Fits c k x → Good c → Good (with c k x)
unfolding record_of
good_with c (single s) x z f g =
    record { good_once = once_with c s x z g; good_tables = g.good_tables; good_rules = g.good_rules; good_units = g.good_units }
good_with c table t z f g =
    let good : GoodTable t = record { inputs_fit = z.0; truth_fits = z.1; few_inputs = f.right.0; rows_there = f.right.1 } in
    record {
      good_once = g.good_once;
      good_tables = all_snoc GoodTable c.tables t g.good_tables good;
      good_rules = g.good_rules;
      good_units = g.good_units;
    }
good_with c rule r z f g =
    let good : GoodRule r = record { head_fits = z.0; positive_fits = z.1.0; negative_fits = z.1.1; some_word = f.right.0; none_shared = f.right.1 } in
    record {
      good_once = g.good_once;
      good_tables = g.good_tables;
      good_rules = all_snoc GoodRule c.rules r g.good_rules good;
      good_units = rw (empty c.units (omega (arith, f.in_place.on_time))) tt;
    }
good_with c usage x z f g = record { good_once = g.good_once; good_tables = g.good_tables; good_rules = g.good_rules; good_units = g.good_units }
good_with c unit w z f g =
    record {
      good_once = g.good_once;
      good_tables = g.good_tables;
      good_rules = g.good_rules;
      good_units = all_snoc (λ y. y < 2 ^ length c.rules) c.units w g.good_units f.right;
    }
good_with c edge e z f g = record { good_once = g.good_once; good_tables = g.good_tables; good_rules = g.good_rules; good_units = g.good_units }
good_with c end x z f g = g

-- ---- reading on

-- p is the record of lists within the limits; their commands reach to `at`, and s behind them makes up the whole
pub record Read (whole : List ℕ) (p : Plan) (at : ℕ) (s : List ℕ) : Type 0 where
  pub contents : Contents
  pub held : Held contents
  pub good : Good contents
  pub record_is : p ≡ record_of contents
  pub bytes_are : whole ≡ commands contents ++ s
  pub placed : at ≡ length (commands contents)
  pub small : All IsByte s

module _ (whole : List ℕ) where
  pub read_on : (p q : Plan) (at : ℕ) (s : List ℕ) (k : Kind) → Read whole p at s → Leads k p at s q
      → Read whole q (at + command_bytes k) (drop (command_bytes k) s)
  read_on p q at s k r lead =
      let c = r.contents in
      let l : Leads k (record_of c) at s q = subst (λ (z : Plan). Leads k z at s q) r.record_is lead in
      let t : List ℕ = l.read.operands in
      let x : Element k = element_at k t in
      let m = more c k at s q r.held l in
      let bytes : All IsByte t = (subst (All IsByte) l.read.bytes r.small).1 in
      let rest : List ℕ = drop (command_bytes k) s in
      let tail : rest ≡ drop (operand_bytes k) t = ap (drop (command_bytes k)) l.read.bytes in
      let again : operands_of k x ++ rest ≡ t = ap (λ (y : List ℕ). operands_of k x ++ y) tail ∙ written_again k t l.read.long bytes in
      let s-is : s ≡ byte_of k ∷ (operands_of k x ++ rest) = l.read.bytes ∙ ap (λ (y : List ℕ). byte_of k ∷ y) (sym again) in
      let in_place = l.read.in_place in
      record {
        contents = with c k x;
        held = m.held;
        good = good_with c k x (sized k t l.read.long bytes) m.fits r.good;
        record_is = m.is;
        bytes_are = r.bytes_are ∙ ap (λ (y : List ℕ). commands c ++ y) s-is ∙ sym (commands_with c k x rest l.more in_place);
        placed = ap (λ (n : ℕ). n + command_bytes k) r.placed ∙ sym (commands_longer c k x l.more in_place);
        small = all_drop IsByte (command_bytes k) s r.small;
      }

  pub read_start : All IsByte whole → Read whole empty_plan 0 whole
  unfolding commands flat_map
  read_start small =
      record {
        contents = nothing;
        held = held_none;
        good = record { good_once = λ s. tt; good_tables = tt; good_rules = tt; good_units = tt };
        record_is = sym record_none;
        bytes_are = refl;
        placed = refl;
        small = small;
      }

  pub read_within : (p : Plan) (at : ℕ) (s : List ℕ) (r : Read whole p at s) → WithinLimits r.contents
  read_within p at s r =
      let h = r.held in
      record {
        under = within_most r.contents h;
        good_once = r.good.good_once;
        good_tables = r.good.good_tables;
        good_rules = r.good.good_rules;
        good_uses = h.few.good_uses;
        no_use_again = h.no_use_again;
        good_units = r.good.good_units;
        good_edges = h.good_edges;
        no_repeat = h.no_repeat;
      }

  read_ended : (p : Plan) (at : ℕ) (s : List ℕ) → Read whole p at s → s ≡ end_bytes → miscounted p ≡ false → IsPlan whole p
  read_ended p at s r e n =
      record {
        contents = r.contents;
        within = read_within p at s r;
        counted =
            counted_right r.contents r.held.few (subst (λ (q : Plan). miscounted q ≡ false) r.record_is n);
        bytes_are = r.bytes_are ∙ ap (λ (y : List ℕ). commands r.contents ++ y) e;
        record_is = r.record_is;
      }

-- whenever reading accepts bytes, they are the layout of lists within the limits, and the record is theirs
pub accepted_is_plan : (bytes : List ℕ) → All IsByte bytes → (reading bytes).outcome ≡ Accepted → IsPlan bytes (reading bytes).plan
unfolding reading
accepted_is_plan bytes small =
    walk_keeps (Read bytes) (λ x. x.outcome ≡ Accepted → IsPlan bytes x.plan) (read_on bytes) (λ p at s r e n o. read_ended bytes p at s r e n)
    (λ p at s f r e o. cc) empty_plan 0 bytes (read_start bytes small)

-- ---- the edges of an accepted plan

-- it names no predecessor that is not there
pub predecessors_there : (bytes : List ℕ) → All IsByte bytes → (reading bytes).outcome ≡ Accepted → (u v : ℕ)
    → u < (reading bytes).plan.unit_count → Has (get_or (reading bytes).plan.predecessors u 0) v → v < (reading bytes).plan.unit_count
unfolding record_of
predecessors_there bytes small o u v l h =
    let p = accepted_is_plan bytes small o in
    let edges = p.contents.edges in
    let few = (record_fits bytes).units_fit in
    let count = ap (λ (q : Plan). q.unit_count) p.record_is in
    let row : get_or (reading bytes).plan.predecessors u 0 ≡ predecessors_of edges u =
    ap (λ (q : Plan). get_or q.predecessors u 0) p.record_is ∙ get_or_tabulate MAX_UNITS (predecessors_of edges) u (omega arith) in
    let good = all_member _ edges (pair u v) p.within.good_edges (has_member edges (pair u v) (rw row at h)) in
    omega (arith, good.to_there)
