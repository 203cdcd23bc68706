-- What the search looks for in the table is what document 01 lists: form A of the splitting theory, told from the stored lists.
use Rattle.unit_lists.proofs.Prelude.{◌≡◌, sym, ◌∙◌, subst, Bool, true, List, List-as-Memᴰ, ℕ, ◌+◌, ◌*◌, ◌^◌, ◌≤◌, ◌<◌, arith, eqb, length, get_or}
use Rattle.unit_lists.proofs.Prelude.{eqb-true, eq-eqb, ATOMS, EVERY_ATOM, Has, ◌⊆◌, ◌∩◌, below, decided_true, has_dec, has_lt, lt_of_has, has_outside}
use Rattle.unit_lists.proofs.Prelude.{outside_lacks, subset_le, cut_right, below_lt, some_at, some_intro, all_in_at, all_in_intro, lent, rule_at, State}
use Rattle.unit_lists.proofs.Prelude.{MAX_RULES, MAX_UNITS, LIST_WORDS, Units, Edge, Passes, heads, input_heads, Listed, unit_list_of, numbers_fit}
use Rattle.unit_lists.proofs.Prelude.{unit_list_at, unit_list_has, UnitTold, start_within, ListStored, MembersStored, Stored, ListsThere}
use Rattle.atoms.specs.Cuts.{CutOf, cut_list}
use Rattle.atoms.proofs.Lists.{member_get_or, index_of}
use Rattle.atoms.proofs.Cuts.{cut_rising, cut_at, cut_has, cut_whole}
use Rattle.states.specs.State.{Completes}
use Rattle.answer_sets.proofs.JudgedSets.{decides_answer_set}
use Rattle.splitting.proofs.Form.{listed_member}
use Rattle.propagating.specs.Job.{Belongs, Searchable}
use Rattle.joining.specs.Joins.{is_listed, joins}
use Rattle.states.specs.Narrowing.{Wanted}
use Rattle.propagating.specs.declared.unit.Job.{Job}
use Rattle.demands.proofs.Enumerations.{unit_list_rising}
use Rattle.unit_lists.proofs.RisingLists.{members_stored}

-- ---- a stored list is searched word by word

stored_at : {T : Units} {table counts : List ℕ} {v : ℕ} (x : ℕ) → Stored T table counts v
    → is_listed table (LIST_WORDS * v) (get_or counts v 0) x ≡ true → List-as-Memᴰ x (unit_list_of T v)
unfolding is_listed
stored_at {T} {table} {counts} {v} x s e =
    let f = some_at (get_or counts v 0) (λ i. eqb (get_or table (LIST_WORDS * v + i) 0) x) e in
    let l : f.0 < length (unit_list_of T v) = omega (arith, f.1, s.counted) in
    subst (λ (y : ℕ). List-as-Memᴰ y (unit_list_of T v)) (sym (s.words f.0 l) ∙ eqb-true (get_or table (LIST_WORDS * v + f.0) 0) x f.2)
    (member_get_or (unit_list_of T v) f.0 l)

stored_has : {T : Units} {table counts : List ℕ} {v : ℕ} (x : ℕ) → Stored T table counts v → List-as-Memᴰ x (unit_list_of T v)
    → is_listed table (LIST_WORDS * v) (get_or counts v 0) x ≡ true
unfolding is_listed
stored_has {T} {table} {counts} {v} x s m =
    let f = index_of (unit_list_of T v) x m in
    some_intro (get_or counts v 0) (λ i. eqb (get_or table (LIST_WORDS * v + i) 0) x) f.0 (omega (arith, f.1, s.counted))
    (eq-eqb (get_or table (LIST_WORDS * v + f.0) 0) x (s.words f.0 f.1 ∙ f.2))

-- ---- the search of one unit

-- unit u can be listed: its rules and the head atoms of its predecessors are lent, and their lists are in the table
pub record ReadyToList (T : Units) (u : ℕ) (rules heads' table counts : List ℕ) : Type 0 where
  pub is_unit : u < T.units
  pub passes : Passes T
  pub program_is : T.program ≡ lent rules
  pub rules_most : T.rules ≤ MAX_RULES
  pub rules_there : rule_at T.rules ≤ length rules
  pub heads_there : MAX_UNITS ≤ length heads'
  pub named : (v : ℕ) → Has (T.predecessors u) v → (v < MAX_UNITS) × Edge T u v
  pub heads_are : (v : ℕ) → Edge T u v → get_or heads' v 0 ≡ heads T v
  pub lists : ListsThere T (Edge T u) table counts

module _ {T : Units} {u : ℕ} {rules heads' table counts : List ℕ} {unit : Job} (a : ReadyToList T u rules heads' table counts) (t : UnitTold T u unit) where
  pub searchable : Searchable rules table counts heads' unit
  searchable = record {
    rules_lent = rw t.rules_are (record {
      each = λ r h.
          let l : r < T.rules = below_lt T.rules (cut_right (T.unit u) (below T.rules) h) in
          omega (arith, a.rules_there);
    });
    joinable = rw t.predecessors_are (record {
      table_long = λ v h. let l : v < MAX_UNITS = (a.named v h).0 in omega (arith, a.lists.table_long);
      counts_long = omega (arith, a.lists.counts_long);
      heads_long = a.heads_there;
      few = lt_of_has (T.predecessors u) MAX_UNITS (λ v h. (a.named v h).0);
      small = a.lists.small;
    });
    near = t.near;
  }

  -- each predecessor's list has the position's cut
  joins_edge : (M : ℕ) → joins table counts heads' (T.predecessors u) M ≡ true → (v : ℕ) → Edge T u v → Listed T v (M ∩ heads T v)
  unfolding joins
  joins_edge M j v e =
      unit_list_at T a.passes a.passes.given_free a.rules_most v (M ∩ heads T v) e.is_predecessor
      (stored_at (M ∩ heads T v) (a.lists.stored v e)
      (rw (a.heads_are v e) at
      (all_in_at MAX_UNITS (T.predecessors u) (λ w. is_listed table (LIST_WORDS * w) (get_or counts w 0) (M ∩ get_or heads' w 0)) j v
      (a.named v e.edge).0 e.edge)))

  edge_joins : (M : ℕ) → ((v : ℕ) → Edge T u v → Listed T v (M ∩ heads T v)) → joins table counts heads' (T.predecessors u) M ≡ true
  unfolding joins
  edge_joins M f =
      all_in_intro MAX_UNITS (T.predecessors u) (λ w. is_listed table (LIST_WORDS * w) (get_or counts w 0) (M ∩ get_or heads' w 0))
      (λ v l h.
      let e : Edge T u v = (a.named v h).1 in
      rw (a.heads_are v e)
      (stored_has (M ∩ heads T v) (a.lists.stored v e)
      (unit_list_has T a.passes a.passes.given_free a.rules_most v (M ∩ heads T v) e.is_predecessor (f v e))))

  belongs_listed : (M : ℕ) → Belongs rules table counts heads' unit M → T.given ⊆ M → M ⊆ heads T u → Listed T u M
  belongs_listed M b g w =
      (listed_member T a.passes a.passes.given_free u a.is_unit M).1
      (record {
        given_up = g;
        within = w;
        inputs = joins_edge M (rw t.predecessors_are at b.joined);
        answer = (decides_answer_set T.program (T.unit u ∩ below T.rules) (M ∩ input_heads T u) M (numbers_fit T u a.rules_most)).yes
            (rw (← t.rules_are, ← t.inputs_are, a.program_is) b.answers);
      })

  listed_belongs : (M : ℕ) → heads T u < 2 ^ ATOMS → Listed T u M → Belongs rules table counts heads' unit M
  listed_belongs M fit h =
      let m = (listed_member T a.passes a.passes.given_free u a.is_unit M).0 h in
      record {
        word = let l : M ≤ heads T u = subset_le m.within in omega arith;
        joined = rw t.predecessors_are (edge_joins M m.inputs);
        answers = rw (← t.rules_are, ← t.inputs_are, a.program_is) at
            (decided_true (decides_answer_set T.program (T.unit u ∩ below T.rules) (M ∩ input_heads T u) M (numbers_fit T u a.rules_most))
            m.answer);
      }

  -- a search from the start is one above the given atoms and within H(u)
  from_start : (M : ℕ) → T.given ⊆ M → M ⊆ heads T u → Completes (start_within T.given (heads T u)) M
  from_start M g f = record {
    has_up = g;
    no_dropped = record { none = λ i p q. outside_lacks (heads T u) p (f.each i q) };
  }

  to_heads : (M : ℕ) → M < 2 ^ ATOMS → Completes (start_within T.given (heads T u)) M → M ⊆ heads T u
  to_heads M w c = record { each = λ i h. go i h (has_dec (heads T u) i) }
    where
      go : (i : ℕ) → Has M i → Dec (Has (heads T u) i) → Has (heads T u) i
      go i h (yes p) = p
      go i h (no n) = absurd (c.no_dropped.none i (has_outside (heads T u) (has_lt M ATOMS w h) n) h)

  -- what the search stores are the cuts of the unit's list
  pub cuts_stored : {start : State} (shown place : ℕ) {table' counts' : List ℕ} {fits : Bool}
      → heads T u < 2 ^ ATOMS → start ≡ start_within T.given (heads T u)
      → ListStored (CutOf shown (Wanted (Belongs rules table counts heads' unit) start)) place table counts table' counts' fits
      → MembersStored (cut_list shown (unit_list_of T u)) place table counts table' counts' fits
  cuts_stored {start} shown place fit e s =
      members_stored (CutOf shown (Wanted (Belongs rules table counts heads' unit) start)) (cut_list shown (unit_list_of T u))
      (cut_rising shown (unit_list_of T u))
      (λ x c.
      let w = c.wanted in
      cut_has shown (unit_list_of T u) c.whole x
      (unit_list_has T a.passes a.passes.given_free a.rules_most u c.whole a.is_unit
      (belongs_listed c.whole w.belongs (rw e at w.completes).has_up (to_heads c.whole w.belongs.word (rw e at w.completes))))
      c.is)
      (λ x m.
      let c = cut_at shown (unit_list_of T u) x m in
      let l = unit_list_at T a.passes a.passes.given_free a.rules_most u c.0 a.is_unit c.1 in
      let k = (listed_member T a.passes a.passes.given_free u a.is_unit c.0).0 l in
      record {
        whole = c.0;
        wanted = record { belongs = listed_belongs c.0 fit l; completes = rw e (from_start c.0 k.given_up k.within) };
        is = c.2;
      })
      s

  -- where every atom shows they are the list itself
  pub unit_stored : {start : State} (place : ℕ) {table' counts' : List ℕ} {fits : Bool}
      → heads T u < 2 ^ ATOMS → start ≡ start_within T.given (heads T u)
      → ListStored (CutOf EVERY_ATOM (Wanted (Belongs rules table counts heads' unit) start)) place table counts table' counts' fits
      → MembersStored (unit_list_of T u) place table counts table' counts' fits
  unit_stored place {table'} {counts'} {fits} fit e s =
      subst (λ (xs : List ℕ). MembersStored xs place table counts table' counts' fits) (cut_whole (unit_list_of T u) (unit_list_rising T u) words)
      (cuts_stored EVERY_ATOM place fit e s)
    where
      words : (x : ℕ) → List-as-Memᴰ x (unit_list_of T u) → x < 2 ^ ATOMS
      words x m =
          (listed_belongs x fit
          (unit_list_at T a.passes a.passes.given_free a.rules_most u x a.is_unit m)).word
