-- The one more unit, with no rules and an edge to every unit: what the search is told of it, and that it can be listed.
use Rattle.unit_lists.proofs.Prelude.{◌≡◌, refl, sym, ap, ◌∙◌, subst, ◌⊎◌, inl, inr, List, ℕ, suc, ◌≤◌, ◌<◌, arith, length, get_or, Has, ◌⊆◌, ◌∩◌, ◌∪◌}
use Rattle.unit_lists.proofs.Prelude.{below, members, decides_same, ext, empty, has_none, has_left, has_right, union_cases, has_below, below_lt}
use Rattle.unit_lists.proofs.Prelude.{cut_left, union_has, union_at, members_same, rule_at, MAX_RULES, MAX_UNITS, Units, Edge, GivenFree, Passes, reach}
use Rattle.unit_lists.proofs.Prelude.{own, heads, input_heads, units_of, Clean, with_last, in_list, unit_list_of, UnitTold, ListsThere, Setting}
use Rattle.unit_lists.proofs.Prelude.{decides_listed}
use Rattle.atoms.specs.Bounded.{union_in}
use Rattle.plan.specs.declared.record.Plan.{Plan}
use Rattle.dependency_graph.specs.declared.head_atoms.HeadAtoms.{HeadAtoms}
use Rattle.dependency_graph.proofs.Heads.{own_at, heads_cases, heads_input, input_given, input_cases, input_edge}
use Rattle.splitting.proofs.Last.{last_unit, last_predecessors, holds_old, edge_from_last, old_heads, old_list, last_passes, last_free}
use Rattle.unit_lists.proofs.Joined.{ReadyToList}

-- a unit's list is the same where the one more unit is added
lists_same : (S : Units) → Passes S → GivenFree S → Clean S → S.rules ≤ MAX_RULES → (u : ℕ) → u < S.units
    → unit_list_of S u ≡ unit_list_of (with_last S) u
unfolding unit_list_of with_last
lists_same S pass free clean small u l =
    members_same (in_list S (suc (reach S u)) u) (in_list (with_last S) (suc (reach (with_last S) u)) u) (suc (heads S u))
    (λ x k.
    decides_same (decides_listed S pass free small u x l)
    (decides_listed (with_last S) (last_passes S clean pass) (last_free S free) small u x (omega arith))
    (old_list S clean u x l).0 (old_list S clean u x l).1)
    ∙ ap (λ (h : ℕ). members (in_list (with_last S) (suc (reach (with_last S) u)) u) (suc h)) (old_heads S clean u l)

edge_below : (S : Units) (v : ℕ) → Edge (with_last S) S.units v → v < S.units
edge_below S v e = below_lt S.units (subst (λ (w : ℕ). Has w v) (last_predecessors S) e.edge)

-- its own head atoms are those of its input
pub heads_of_last : (S : Units) → input_heads (with_last S) S.units ≡ heads (with_last S) S.units
unfolding with_last
heads_of_last S =
    ext (input_heads (with_last S) S.units) (heads (with_last S) S.units) (λ a h. heads_input (with_last S) S.units a (omega arith) h)
    (λ a h. go a (heads_cases (with_last S) S.units a (omega arith) h))
  where
    go : (a : ℕ) → Has (own (with_last S) S.units) a ⊎ Has (input_heads (with_last S) S.units) a → Has (input_heads (with_last S) S.units) a
    go a (inl h) =
        let r = own_at (with_last S) S.units a (omega arith) h in
        absurd (omega (arith, (holds_old S S.units r.0 r.1).is_unit))
    go a (inr h) = h

no_rules : (S : Units) (w : ℕ) → 0 ≡ (with_last S).unit S.units ∩ w
no_rules S w = rw (last_unit S) (sym (empty (0 ∩ w) (λ r h. has_none (cut_left 0 w h))))

module _ {p : Plan} {h : HeadAtoms} (s : Setting p h) where
  -- the atoms of all units' H
  abbrev all_heads : ℕ
  all_heads = union_in p.unit_count (below p.unit_count) (λ v. get_or h.heads v 0)

  input_of_last : p.once.given.word ∪ all_heads ≡ input_heads (with_last (units_of p)) p.unit_count
  unfolding units_of with_last
  input_of_last =
      ext (p.once.given.word ∪ all_heads) (input_heads (with_last (units_of p)) p.unit_count)
      (λ a k. into a (union_cases p.once.given.word all_heads k))
      (λ a k. back a (input_cases (with_last (units_of p)) p.unit_count a (omega arith) k))
    where
      heads_at : (v : ℕ) → v < p.unit_count → get_or h.heads v 0 ≡ heads (with_last (units_of p)) v
      heads_at v l = s.heads_of.heads_are v l ∙ old_heads (units_of p) s.workable.clean v l

      there : (a : ℕ) → (v : ℕ) × (v < p.unit_count) × Has (below p.unit_count) v × Has (get_or h.heads v 0) a
          → Has (input_heads (with_last (units_of p)) p.unit_count) a
      there a f =
          input_edge (with_last (units_of p)) p.unit_count f.0 a (edge_from_last (units_of p) f.0 f.1)
          (rw (heads_at f.0 f.1) at f.3)

      into : (a : ℕ) → Has p.once.given.word a ⊎ Has all_heads a → Has (input_heads (with_last (units_of p)) p.unit_count) a
      into a (inl g) = input_given (with_last (units_of p)) p.unit_count a g
      into a (inr k) = there a (union_at p.unit_count (below p.unit_count) (λ v. get_or h.heads v 0) a k)

      back : (a : ℕ)
          → Has p.once.given.word a ⊎ ((v : ℕ) × Edge (with_last (units_of p)) p.unit_count v × Has (heads (with_last (units_of p)) v) a)
          → Has (p.once.given.word ∪ all_heads) a
      back a (inl k) = has_left p.once.given.word all_heads k
      back a (inr f) =
          let l = edge_below (units_of p) f.0 f.1 in
          has_right p.once.given.word all_heads
          (union_has p.unit_count (below p.unit_count) (λ v. get_or h.heads v 0) f.0 a l (has_below p.unit_count f.0 l)
          (rw (heads_at f.0 l) f.2))

  pub last_told : (input near : ℕ) → input ≡ p.once.given.word ∪ all_heads → near ⊆ below p.unit_count
      → UnitTold (with_last (units_of p)) p.unit_count (record { rules = 0; inputs = input; predecessors = below p.unit_count; nearest = near })
  unfolding units_of with_last
  last_told input near e n = record {
    rules_are = no_rules (units_of p) (below p.rule_count);
    inputs_are = e ∙ input_of_last;
    predecessors_are = sym (last_predecessors (units_of p));
    near = n;
  }

  pub last_listable : {table counts : List ℕ} → rule_at p.rule_count ≤ length p.rules → MAX_UNITS ≤ length h.heads
      → ListsThere (units_of p) (λ v. v < p.unit_count) table counts
      → ReadyToList (with_last (units_of p)) p.unit_count p.rules h.heads table counts
  unfolding units_of with_last
  last_listable lent long t = record {
    is_unit = omega arith;
    passes = last_passes (units_of p) s.workable.clean s.workable.passes;
    program_is = refl;
    rules_most = s.workable.fits.rules_fit;
    rules_there = lent;
    heads_there = long;
    named = λ v k.
        let l = below_lt p.unit_count (subst (λ (w : ℕ). Has w v) (last_predecessors (units_of p)) k) in
        (omega (arith, s.workable.fits.units_fit), edge_from_last (units_of p) v l);
    heads_are = λ v e.
        let l = edge_below (units_of p) v e in
        s.heads_of.heads_are v l ∙ old_heads (units_of p) s.workable.clean v l;
    lists = record {
      table_long = t.table_long;
      counts_long = t.counts_long;
      small = t.small;
      stored = λ v e.
          let l = edge_below (units_of p) v e in
          let k = t.stored v l in
          let same = lists_same (units_of p) s.workable.passes s.workable.passes.given_free s.workable.clean s.workable.fits.rules_fit v l in
          record { counted = rw same at k.counted; words = rw same at k.words };
    };
  }

  -- a unit of the plan, where its predecessors are listed
  pub unit_listable : {table counts : List ℕ} (u : ℕ) → rule_at p.rule_count ≤ length p.rules → MAX_UNITS ≤ length h.heads
      → u < p.unit_count → ListsThere (units_of p) (Edge (units_of p) u) table counts → ReadyToList (units_of p) u p.rules h.heads table counts
  unfolding units_of
  unit_listable u lent long l t = record {
    is_unit = l;
    passes = s.workable.passes;
    program_is = refl;
    rules_most = s.workable.fits.rules_fit;
    rules_there = lent;
    heads_there = long;
    named = λ v k.
        let m = s.workable.clean.there u v l k in
        (omega (arith, s.workable.fits.units_fit), record { is_unit = l; is_predecessor = m; edge = k });
    heads_are = λ v e. s.heads_of.heads_are v e.is_predecessor;
    lists = t;
  }
