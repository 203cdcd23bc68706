-- The table and the counts while units are worked: what one unit more changes, and what stands there in the end.
use Rattle.unit_lists.proofs.Prelude.{◌≡◌, sym, ap, ◌∙◌, subst, Bool, true, ◌⊎◌, inl, inr, List, [], ℕ, ◌≤◌, ◌<◌, arith, dec_lt, length, Has, ◌∪◌, atom}
use Rattle.unit_lists.proofs.Prelude.{decided_true, decided_false, decides_has, has_dec, has_none, has_left, has_right, union_cases, has_atom}
use Rattle.unit_lists.proofs.Prelude.{atom_only, MAX_UNITS, TABLE_WORDS, LAST_COUNT, Units, unit_list_of, last_list_of, list_at, cleared, no_counts_of}
use Rattle.unit_lists.proofs.Prelude.{list_there}
use Rattle.unit_lists.proofs.Prelude.{list_absent, list_last, holding_none, held_count, held_word, held_counts_long, held_long, holding_next}
use Rattle.unit_lists.proofs.Prelude.{MembersStored, ListsThere, list_so_far, Working}
use Rattle.demands.specs.Held.{Holding}

-- ---- the lists so far

so_far_done : (S : Units) (done i : ℕ) → Has done i → list_so_far S done i ≡ unit_list_of S i
unfolding list_so_far
so_far_done S done i h = rw (decided_true (decides_has done i) h, list_so_far)

so_far_waiting : (S : Units) (done i : ℕ) → ¬ Has done i → list_so_far S done i ≡ []
unfolding list_so_far
so_far_waiting S done i h = rw (decided_false (decides_has done i) h, list_so_far)

-- another unit's list stays as it is
so_far_other : (S : Units) (done u i : ℕ) → ¬ (i ≡ u) → list_so_far S done i ≡ list_so_far S (done ∪ atom u) i
so_far_other S done u i n = go (has_dec done i)
  where
    out : ¬ Has done i → Has done i ⊎ Has (atom u) i → ⊥
    out h (inl p) = h p
    out h (inr p) = n (sym (atom_only u p))

    go : Dec (Has done i) → list_so_far S done i ≡ list_so_far S (done ∪ atom u) i
    go (yes h) = so_far_done S done i h ∙ sym (so_far_done S (done ∪ atom u) i (has_left done (atom u) h))
    go (no h) = so_far_waiting S done i h ∙ sym (so_far_waiting S (done ∪ atom u) i (λ p. out h (union_cases done (atom u) p)))

-- ---- the units

pub working_start : (S : Units) (t : List ℕ) → S.units ≤ MAX_UNITS → TABLE_WORDS ≤ length t → Working S 0 (cleared t) (cleared t) no_counts_of
working_start S t few long = record {
  few = few;
  holding = holding_none (list_so_far S 0) t (λ i. so_far_waiting S 0 i has_none) long;
  done_units = λ v h. absurd (has_none h);
}

module _ {S : Units} {done : ℕ} {table₀ table counts : List ℕ} (w : Working S done table₀ table counts) where
  -- the lists of units that are done are where a search looks for them
  pub working_there : (Named : ℕ → Type 0) → ((v : ℕ) → Named v → Has done v) → ListsThere S Named table counts
  working_there Named f = record {
    table_long = omega (arith, held_long w.holding, w.holding.long);
    counts_long = held_counts_long w.holding;
    small = λ v l. omega (arith, held_count w.holding v (omega arith), w.holding.small v);
    stored = λ v n.
        let l : v < S.units = w.done_units v (f v n) in
        let few = w.few in
        let e = so_far_done S done v (f v n) in
        record {
          counted = held_count w.holding v (omega arith) ∙ ap length e;
          words = λ i k. (rw e at (held_word w.holding v i (omega arith))) k;
        };
  }

  -- one unit more
  pub working_next : (u : ℕ) {table' counts' : List ℕ} {fits : Bool} → u < S.units
      → MembersStored (unit_list_of S u) u table counts table' counts' fits → fits ≡ true → Working S (done ∪ atom u) table₀ table' counts'
  working_next u l m e =
      let few = w.few in
      let here = so_far_done S (done ∪ atom u) u (has_right done (atom u) (has_atom u)) in
      let k = rw (← here) at (m.when_fits e) in
      record {
        few = w.few;
        holding = holding_next w.holding (list_so_far S (done ∪ atom u)) u (omega arith) (so_far_other S done u) k.0 k.1 k.2;
        done_units = λ v h. unit v (union_cases done (atom u) h);
      }
    where
      unit : (v : ℕ) → Has done v ⊎ Has (atom u) v → v < S.units
      unit v (inl h) = w.done_units v h
      unit v (inr h) = subst (λ (x : ℕ). x < S.units) (atom_only u h) l

  -- the last list behind those of all units
  pub working_last : ((u : ℕ) → u < S.units → Has done u) → {table' counts' : List ℕ} {fits : Bool}
      → MembersStored (last_list_of S) LAST_COUNT table counts table' counts' fits → fits ≡ true → Holding (list_at S) table₀ table' counts'
  working_last all m e =
      let k = rw (← list_last S) at (m.when_fits e) in
      holding_next w.holding (list_at S) LAST_COUNT (omega arith) (λ j n. same j n (dec_lt j S.units)) k.0 k.1 k.2
    where
      same : (j : ℕ) → ¬ (j ≡ LAST_COUNT) → Dec (j < S.units) → list_so_far S done j ≡ list_at S j
      same j n (yes l) = so_far_done S done j (all j l) ∙ sym (list_there S j w.few l)
      same j n (no a) = so_far_waiting S done j (λ h. a (w.done_units j h)) ∙ sym (list_absent S j n (omega arith))
