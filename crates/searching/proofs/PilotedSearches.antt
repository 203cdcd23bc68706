-- Searches with pilots: the cuts of what is wired are those of what belongs to the list.
use Rattle.searching.proofs.Prelude.{◌≡◌, sym, subst, ◌∙◌, true, List, ℕ, ◌*◌, ◌^◌, ◌<◌, lt_of_le_of_lt, get_or, ATOMS, Has, Apart, ◌∩◌, ◌∪◌}
use Rattle.searching.proofs.Prelude.{◌∖◌, CutOf, ext, has_cut, cut_left, cut_right, has_lt, subset_le, union_fits, without_fits, decided_true}
use Rattle.searching.proofs.Prelude.{MAX_UNITS, LIST_WORDS, lent, decides_answer_set, Wanted, State, AnswersInputs, is_listed, joins, joins_each}
use Rattle.searching.proofs.Prelude.{joins_one, Belongs, Searchable, LaidOut, Prepared, Wired, Job, prepared, belongs_desk, desk_belongs, FollowAll}
use Rattle.searching.proofs.Prelude.{PilotsWithin, Gathered, Grown, AlikeBut, Piloted, AllDown, all_pilots, with_inputs}
use Rattle.searching.proofs.Gathered.{gathered_iff}
use Rattle.searching.proofs.Witnesses.{grown_for}
use Rattle.searching.proofs.TestedPilots.{pilots_within}
use Rattle.searching.proofs.SpareAtoms.{alike_with, alike_without, answers_with, answers_without}
use Rattle.searching.proofs.PilotedUnits.{lit_at, lit_within, lit_follow, opened, opened_with, opened_without, pilots_off, cut_with, cut_without}

-- the same lists are joined
joins_alike : (table counts heads : List ℕ) (w X : ℕ) {M N : ℕ} → w < 2 ^ MAX_UNITS → ((v : ℕ) → Has w v → Apart (get_or heads v 0) X) → AlikeBut X M N
    → joins table counts heads w M ≡ true → joins table counts heads w N ≡ true
joins_alike table counts heads w X {M} {N} few off a j =
    joins_each table counts heads w N
    (λ v h. subst (λ (x : ℕ). is_listed table (LIST_WORDS * v) (get_or counts v 0) x ≡ true) (same v h)
    (joins_one table counts heads w M v (has_lt w MAX_UNITS few h) h (record { joined = j })))
  where
    same : (v : ℕ) → Has w v → M ∩ get_or heads v 0 ≡ N ∩ get_or heads v 0
    same v h =
        ext (M ∩ get_or heads v 0) (N ∩ get_or heads v 0)
        (λ i p. let q = cut_right M (get_or heads v 0) p in
        has_cut N (get_or heads v 0) ((a.elsewhere i ((off v h).none i q)).0 (cut_left M (get_or heads v 0) p)) q)
        (λ i p. let q = cut_right N (get_or heads v 0) p in
        has_cut M (get_or heads v 0) ((a.elsewhere i ((off v h).none i q)).1 (cut_left N (get_or heads v 0) p)) q)

module _ {rules table counts heads pilots desk : List ℕ} {unit : Job} {X : ℕ} (p : Piloted rules heads pilots unit X)
    (ready : Searchable rules table counts heads unit) (fits : unit.rules < 2 ^ ATOMS) (small : X < 2 ^ ATOMS)
    (laid : LaidOut rules heads pilots (with_inputs unit X) desk) where
  -- what belongs, with the pilots that are lit
  pub lit_wired : (N : ℕ) → Apart X N → Belongs rules table counts heads unit N
      → Wired rules table counts desk (with_inputs unit X) (N ∪ lit_at rules pilots N)
  lit_wired N off b = record {
    belongs = belongs_desk laid table counts (N ∪ lit_at rules pilots N) (record {
      word = union_fits N (lit_at rules pilots N) ATOMS b.word (lt_of_le_of_lt (subset_le (lit_within p N)) small);
      joined = joins_alike table counts heads unit.predecessors X ready.joinable.few p.no_heads (alike_with X N (lit_within p N)) b.joined;
      answers = decided_true (decides_answer_set (lent rules) unit.rules _ _ fits) (answers_with p.spare off (lit_within p N) old).answer;
    });
    follow = subst (λ (x : List ℕ). FollowAll rules x (N ∪ lit_at rules pilots N)) (sym laid.same_pilots) (lit_follow p N off);
  }
    where
      old : AnswersInputs rules unit.rules unit.inputs N
      old = record { answer = (decides_answer_set (lent rules) unit.rules (N ∩ unit.inputs) N fits).yes b.answers }

  -- what is wired, without the pilots
  pub dark_belongs : (M : ℕ) → Wired rules table counts desk (with_inputs unit X) M → Belongs rules table counts heads unit (M ∖ X)
  dark_belongs M w = record {
    word = without_fits M X ATOMS old.word;
    joined = joins_alike table counts heads unit.predecessors X ready.joinable.few p.no_heads (alike_without X M) old.joined;
    answers = decided_true (decides_answer_set (lent rules) unit.rules _ _ fits) (answers_without p.spare answers).answer;
  }
    where
      old : Belongs rules table counts heads (with_inputs unit X) M
      old = desk_belongs laid table counts M w.belongs

      answers : AnswersInputs rules unit.rules (unit.inputs ∪ X) M
      answers = record { answer = (decides_answer_set (lent rules) unit.rules (M ∩ (unit.inputs ∪ X)) M fits).yes old.answers }

  -- the same of those that complete a state in which the pilots are dropped, and one in which they are open
  module _ {s : State} (d : AllDown X s) where
    lit_wanted : (N : ℕ) → Wanted (Belongs rules table counts heads unit) s N
        → Wanted (Wired rules table counts desk (with_inputs unit X)) (opened d) (N ∪ lit_at rules pilots N)
    lit_wanted N w = record {
      belongs = lit_wired N (pilots_off d w.completes) w.belongs;
      completes = opened_with d (lit_within p N) w.completes;
    }

    dark_wanted : (M : ℕ) → Wanted (Wired rules table counts desk (with_inputs unit X)) (opened d) M
        → Wanted (Belongs rules table counts heads unit) s (M ∖ X)
    dark_wanted M w = record { belongs = dark_belongs M w.belongs; completes = opened_without d w.completes }

    pub piloted_gathered : (list : List ℕ) (count shown : ℕ) {after : List ℕ} {r : ℕ}
        → Gathered (Grown list count (CutOf (shown ∖ X) (Wanted (Wired rules table counts desk (with_inputs unit X)) (opened d)))) after r
        → Gathered (Grown list count (CutOf shown (Wanted (Belongs rules table counts heads unit) s))) after r
    piloted_gathered list count shown g =
        gathered_iff
        (grown_for list count
        (λ x c. record { whole = c.whole ∖ X; wanted = dark_wanted c.whole c.wanted; is = c.is ∙ cut_without X shown c.whole }))
        (grown_for list count
        (λ x c. record {
          whole = c.whole ∪ lit_at rules pilots c.whole;
          wanted = lit_wanted c.whole c.wanted;
          is = c.is ∙ sym (cut_with X shown (pilots_off d c.wanted.completes) (lit_within p c.whole));
        })) g

-- ---- where a search begins

pub piloted_ready : {rules table counts heads pilots desk : List ℕ} {unit u : Job} {x : ℕ} → u ≡ with_inputs unit x → x ≡ all_pilots pilots
    → Searchable rules table counts heads unit → LaidOut rules heads pilots u desk → Prepared rules table counts desk u
piloted_ready {rules} {table} {counts} {heads} {pilots} {unit = unit} {u} e f ready l = prepared l within more
  where
    more : Searchable rules table counts heads u
    more =
        subst (Searchable rules table counts heads) (sym e)
        (record { rules_lent = ready.rules_lent; joinable = ready.joinable; near = ready.near })

    within : PilotsWithin pilots u.inputs
    within =
        subst (λ (v : Job). PilotsWithin pilots v.inputs) (sym e)
        (subst (λ (y : ℕ). PilotsWithin pilots (unit.inputs ∪ y)) (sym f) (pilots_within pilots unit.inputs))

pub piloted_search : {rules table counts heads pilots desk : List ℕ} {unit u : Job} {x : ℕ} {s o : State} {d shown sh : ℕ} → u ≡ with_inputs unit x
    → x ≡ all_pilots pilots → Searchable rules table counts heads unit → Piloted rules heads pilots unit (all_pilots pilots) → AllDown (all_pilots pilots) s
    → LaidOut rules heads pilots u desk → unit.rules < 2 ^ ATOMS → x < 2 ^ ATOMS → d ≡ s.dropped ∖ x → o ≡ record { up = s.up; dropped = d }
    → sh ≡ shown ∖ x
    → (list : List ℕ) (count : ℕ) {after : List ℕ} {r : ℕ} → Gathered (Grown list count (CutOf sh (Wanted (Wired rules table counts desk u) o))) after r
    → Gathered (Grown list count (CutOf shown (Wanted (Belongs rules table counts heads unit) s))) after r
piloted_search {rules} {heads = heads} {pilots} {desk} {unit} {x = x} {s} {shown = shown} e f ready p w l fits small g h k list count a =
    piloted_gathered q ready fits small (subst (λ (v : Job). LaidOut rules heads pilots v desk) e l)
    (subst (λ (y : ℕ). AllDown y s) (sym f) w) list count shown (rw (k, h, g, e) at a)
  where
    q : Piloted rules heads pilots unit x
    q = subst (Piloted rules heads pilots unit) (sym f) p
