-- The job of the subset test: with every atom an input all of a position are facts, so that who is wired is who satisfies the rules; and what one question
-- after the other says of the proper subsets of a position.
use Rattle.searching.proofs.Prelude.{◌≡◌, refl, sym, ◌∙◌, subst, Bool, true, false, true≢false, List, [], ℕ, zero, suc, ◌<◌}
use Rattle.searching.proofs.Prelude.{◌≤◌, ◌^◌, lt_of_le_of_lt, arith, ones, length, get_or, replicate, ATOMS, Has, ◌⊆◌, ◌∩◌, ◌∖◌, atom}
use Rattle.atoms.proofs.Counts.{count_lt}
use Rattle.joining.specs.Filter.{FILTER_WORDS, Filtered}
use Rattle.searching.proofs.Prelude.{cut_all, has_dec, has_lt, has_none, has_left, has_right, has_atom, has_without, without_left, without_right}
use Rattle.searching.proofs.Prelude.{subset_refl, subset_le, decided_true, MAX_UNITS, MAX_TABLES, AnswerSet, lent, Lent}
use Rattle.searching.proofs.Prelude.{SatisfiesAll, Between, Confines, Finds, finds_none, satisfies_all, decides_answer_set, decides_all_satisfied}
use Rattle.searching.proofs.Prelude.{Narrows, Wanted, branch_of, Completes, State, completes_back, narrows_trans, with_up_lem, with_dropped_lem}
use Rattle.searching.proofs.Prelude.{without_dropped, joins_none, LaidOut, Prepared, Wired}
use Rattle.searching.proofs.Prelude.{Job, prepared, Offered, ModelJob, models_of, Asks, Witnessed, met, none, Some, None}
use Rattle.answer_sets.proofs.Support.{satisfied}
use Rattle.searching.specs.declared.subsets.WithoutAtom.TheVariants.{Set, Known}
use Rattle.searching.proofs.SearchSteps.{belongs_answers}

-- ---- who is wired

module _ {rules table counts desk : List ℕ} {unit : Job} (job : ModelJob desk unit) (fits : unit.rules < 2 ^ ATOMS) where
  pub model_wired : {M : ℕ} → M < 2 ^ ATOMS → SatisfiesAll (lent rules) unit.rules M → Wired rules table counts desk unit M
  model_wired {M} word all = record {
    belongs = record {
      word = word;
      joined = rw job.alone (joins_none table counts desk M);
      answers = rw (job.every, cut_all word) (decided_true (decides_answer_set (lent rules) unit.rules M M fits) whole);
    };
    follow = record {
      each = λ t l. rw (job.no_pilots.each t l) (record {
        when_true = λ e. record { each = λ i h. absurd (has_none h) };
        when_false = λ e. record { none = λ i h. absurd (has_none h) };
      });
    };
  }
    where
      whole : AnswerSet (lent rules) unit.rules M M
      whole = record {
        model = record { facts_up = subset_refl; each = λ r k. all.each r k.numbered };
        minimal = λ N p m. p.short m.facts_up;
      }

  pub wired_model : {M : ℕ} → Wired rules table counts desk unit M → SatisfiesAll (lent rules) unit.rules M
  wired_model {M} w = record {
    each = λ r h. satisfied (lent rules) unit.rules (M ∩ unit.inputs) M r
        (belongs_answers rules table counts desk unit fits M w.belongs).answer h;
  }

  -- so a full position is met where it satisfies them
  module _ {M : ℕ} {b : Bool} (word : M < 2 ^ ATOMS) (e : b ≡ satisfies_all (lent rules) unit.rules M) where
    pub settled_one : b ≡ true → Witnessed (Offered (Wired rules table counts desk unit) M) (Some M)
    settled_one f =
        met (record { is = refl; belongs = model_wired word ((decides_all_satisfied (lent rules) unit.rules M fits).yes (sym e ∙ f)) })

    pub settled_none : b ≡ false → Witnessed (Offered (Wired rules table counts desk unit) M) None
    settled_none f =
        none (λ N o. (decides_all_satisfied (lent rules) unit.rules M fits).no (sym e ∙ f)
        (subst (SatisfiesAll (lent rules) unit.rules) o.is (wired_model o.belongs)))

-- ---- what is lent

-- there is no list, so that every filter has each entry
pub unfiltered : {table counts desk filter : List ℕ} {unit : Job} {s : State} → ModelJob desk unit → length filter ≡ FILTER_WORDS
    → Filtered table counts desk unit.nearest s filter
unfiltered job l = record { long = l; each = λ M j c v h. absurd (has_none (rw job.no_list at h)) }

zero_at : (n v : ℕ) → get_or (replicate {A = ℕ} n 0) v 0 ≡ 0
zero_at zero v = refl
zero_at (suc n) zero = refl
zero_at (suc n) (suc v) = zero_at n v

pub models_lent : {rules : List ℕ} {which : ℕ} {unit : Job} → unit ≡ models_of which → Lent rules which
    → Lent rules unit.rules × (MAX_UNITS ≤ length (replicate {A = ℕ} MAX_UNITS 0)) × (unit.nearest < 2 ^ MAX_UNITS)
models_lent e k = rw e (k, omega arith, omega arith)

module _ {rules desk : List ℕ} {which : ℕ} {unit : Job} (e : unit ≡ models_of which)
    (l : LaidOut rules (replicate MAX_UNITS 0) (replicate MAX_TABLES 0) unit desk) where
  pub models_prepared : Lent rules which → Prepared rules [] (replicate MAX_UNITS 0) desk unit
  models_prepared k = prepared l (record { each = λ t m. rw (zero_at MAX_TABLES t) (record { each = λ i h. absurd (has_none h) }) }) (rw e (record {
    rules_lent = k;
    joinable = record {
      table_long = λ v h. absurd (has_none h);
      counts_long = omega arith;
      heads_long = omega arith;
      few = omega arith;
      small = λ v m. omega (arith, zero_at MAX_UNITS v);
    };
    near = record { each = λ i h. h };
  }))

  pub models_job : ModelJob desk unit
  models_job = record {
    every = rw e refl;
    alone = rw e refl;
    no_list = rw e refl;
    no_pilots = record { each = λ t m. rw l.same_pilots (zero_at MAX_TABLES t) };
  }

-- ---- one question

module _ {K : ℕ → Type 0} (t : State) (i : ℕ) where
  pub asks_found : {lowered : State} {m : ℕ} → lowered ≡ branch_of t i false → Witnessed (Wanted K lowered) (Some m) → Asks K t i (Set m)
  asks_found e (met w) = rw e at w

  pub asks_none : {lowered raised u : State} → lowered ≡ branch_of t i false → Witnessed (Wanted K lowered) None → raised ≡ branch_of t i true
      → Narrows K raised u → Asks K t i (Known u)
  asks_none {u = u} e (none n) f k =
      (narrows_trans up (rw f at k), (rw f at k).up_grows.each i (has_right t.up (atom i) (has_atom i)))
    where
      up : Narrows K t (branch_of t i true)
      up = record {
        up_grows = record { each = λ j h. has_left t.up (atom i) h };
        dropped_grows = subset_refl;
        keeps = λ N k c. go N k c (has_dec N i);
      }
        where
          go : (N : ℕ) → K N → Completes t N → Dec (Has N i) → Completes (branch_of t i true) N
          go N k c (yes h) = with_up_lem t i c h
          go N k c (no h) = absurd (n N (rw e (record { belongs = k; completes = with_dropped_lem t i c h })))

-- ---- one after the other

module _ {rules table counts desk : List ℕ} {M : ℕ} {unit : Job} {s t : State} (job : ModelJob desk unit)
    (fits : unit.rules < 2 ^ ATOMS) (n : Narrows (Wired rules table counts desk unit) s t) where
  -- a set without an atom of M is a smaller one
  pub asked_found : {i N : ℕ} → Confines M s.dropped → Has M i → Wanted (Wired rules table counts desk unit) (branch_of t i false) N
      → Finds (lent rules) unit.rules M s true N
  asked_found {i} {N} conf h w = record {
    exactly = record { yes = λ g. found; no = λ g. absurd (true≢false g) };
    shown = λ g. (found, refl);
    none = λ g. absurd (true≢false g);
  }
    where
      c : Completes s N
      c = completes_back n (without_dropped t i w.completes)

      inside : (j : ℕ) → Has N j → Dec (Has M j) → Has M j
      inside j p (yes q) = q
      inside j p (no q) = absurd (c.no_dropped.none j (conf.outside j (has_lt N ATOMS w.belongs.belongs.word p) q) p)

      found : Between (lent rules) unit.rules M s
      found = record {
        set = N;
        proper = record {
          within = record { each = λ j p. inside j p (has_dec M j) };
          short = λ g. w.completes.no_dropped.none i (has_right t.dropped (atom i) (has_atom i)) (g.each i h);
        };
        completes = c;
        satisfied = wired_model job fits w.belongs;
      }

  -- where all of M is up there is none
  pub asked_none : M < 2 ^ ATOMS → ((i : ℕ) → Has M i → Has t.up i) → Finds (lent rules) unit.rules M s false 0
  asked_none word up = finds_none (λ b. b.proper.short (record { each = λ i h. (kept b).has_up.each i (up i h) }))
    where
      kept : (b : Between (lent rules) unit.rules M s) → Completes t b.set
      kept b = n.keeps b.set (model_wired job fits (lt_of_le_of_lt (subset_le b.proper.within) word) b.satisfied) b.completes

-- with each question fewer atoms are left
pub asked_less : (M : ℕ) (t u : State) {i rest rest₂ : ℕ} → rest ≡ M ∖ t.up → Has rest i → rest₂ ≡ M ∖ u.up → t.up ⊆ u.up → Has u.up i
    → ones rest₂ < ones rest
asked_less M t u {i} e h f k up =
    rw (e, f)
    (count_lt i (M ∖ u.up) (M ∖ t.up)
    (record { each = λ j p. has_without M t.up (without_left M u.up p) (λ q. without_right M u.up p (k.each j q)) }) (rw e at h)
    (λ p. without_right M u.up p up))
