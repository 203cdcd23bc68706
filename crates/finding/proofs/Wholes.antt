-- A whole program as one unit: what belongs to it are its answer sets, and so is what is wired, without the pilots.
use Rattle.finding.proofs.Prelude.{◌≡◌, refl, sym, ap, ◌∙◌, subst, ◌⊎◌, inl, inr, List, [], ℕ, zero, suc, ◌+◌, ◌-◌, ◌*◌, ◌^◌, ◌<◌, min, arith, get_or}
use Rattle.finding.proofs.Prelude.{replicate, length-replicate, ATOMS, Has, ◌⊆◌, Apart, ◌∩◌, ◌∪◌, ◌∖◌, outside, below, and-true, decided_true, ext}
use Rattle.finding.proofs.Prelude.{has_cut, cut_right, has_none, has_left, has_right, has_without, without_left, without_right, union_cases}
use Rattle.finding.proofs.Prelude.{decides_subset, lent, Lent, AnswerSet, Completes, Narrows, both_of, Wanted, State, Remembers, LaidOut}
use Rattle.finding.proofs.Prelude.{Wired, Job, joins_none, Witnessed, met, Some, None, whole_of, unit_of, hidden_of, no_lists}
use Rattle.finding.proofs.Prelude.{Settled, Unpiloted, Serves, Standing, Rooted}
use Rattle.plan.specs.Limits.{MAX_UNITS}
use Rattle.answer_sets.specs.Test.{answer_set}
use Rattle.answer_sets.proofs.JudgedSets.{decides_answer_set}
use Rattle.answer_sets.proofs.Lent.{answer_word}
use Rattle.narrowing.specs.Inputs.{AnswersInputs}
use Rattle.propagating.specs.Job.{Belongs, Searchable}
use Rattle.joining.specs.Filter.{BLOCKS, FILTER_WORDS, Full}
use Rattle.searching.specs.Spare.{with_inputs, all_pilots, Piloted, AllDown}
use Rattle.searching.specs.Witness.{none}
use Rattle.searching.proofs.SpareAtoms.{answers_off}
use Rattle.searching.proofs.PilotedUnits.{lit_at, lit_within}
use Rattle.searching.proofs.PilotedSearches.{piloted_ready, lit_wired, dark_belongs}

-- an answer set has the facts
pub settled_facts : {rules : List ℕ} {which facts M : ℕ} → Settled rules which facts M → facts ⊆ M
unfolding answer_set
settled_facts {facts = facts} {M = M} s = (decides_subset facts M).yes ((and-true _ _).0 s.answers).0

facts_are : {facts M : ℕ} → facts ⊆ M → M ∩ facts ≡ facts
facts_are {facts} {M} f = ext (M ∩ facts) facts (λ i h. cut_right M facts h) (λ i h. has_cut M facts (f.each i h) h)

zero_at : (n v : ℕ) → get_or (replicate {A = ℕ} n 0) v 0 ≡ 0
zero_at zero v = refl
zero_at (suc n) zero = refl
zero_at (suc n) (suc v) = zero_at n v

-- where there are no lists the filter of all entries has none
pub no_lists_full : Full no_lists (replicate {A = ℕ} FILTER_WORDS 0)
unfolding below
no_lists_full = record {
  long = length-replicate {A = ℕ} FILTER_WORDS 0;
  each = λ v k l f. zero_at FILTER_WORDS (BLOCKS * v + k) ∙ sym (ap below (none v k));
}
  where
    none : (v k : ℕ) → min ATOMS (get_or no_lists v 0 - ATOMS * k) ≡ 0
    none v k = omega (arith, zero_at MAX_UNITS v)

module _ {rules heads : List ℕ} {which facts : ℕ} where
  belongs_settled : {M : ℕ} → facts ⊆ M → Belongs rules [] no_lists heads (whole_of which facts) M → Settled rules which facts M
  belongs_settled {M} f b = record { word = b.word; answers = rw (facts_are f) at b.answers }

  settled_belongs : {M : ℕ} → Settled rules which facts M → Belongs rules [] no_lists heads (whole_of which facts) M
  settled_belongs {M} s = record {
    word = s.word;
    joined = joins_none [] no_lists heads M;
    answers = rw (facts_are (settled_facts s)) s.answers;
  }

whole_searchable : {rules : List ℕ} {which facts : ℕ} → Lent rules which → Searchable rules [] no_lists no_lists (whole_of which facts)
whole_searchable l = record {
  rules_lent = l;
  joinable = record {
    table_long = λ v h. absurd (has_none h);
    counts_long = omega arith;
    heads_long = omega arith;
    few = omega arith;
    small = λ v m. omega (arith, zero_at MAX_UNITS v);
  };
  near = record { each = λ i h. h };
}

-- ---- the pilots

-- what is added to the facts
added_hidden : (facts X : ℕ) → Apart facts X → (facts ∪ X) ∖ facts ≡ X
added_hidden facts X off =
    ext ((facts ∪ X) ∖ facts) X (λ i h. go i (without_right (facts ∪ X) facts h) (union_cases facts X (without_left (facts ∪ X) facts h)))
    (λ i h. has_without (facts ∪ X) facts (has_right facts X h) (λ f. off.none i f h))
  where
    go : (i : ℕ) → ¬ Has facts i → Has facts i ⊎ Has X i → Has X i
    go i n (inl h) = absurd (n h)
    go i n (inr h) = h

-- what is lit, and dark again
lit_dark : (X M : ℕ) {W : ℕ} → Apart X M → W ⊆ X → M ≡ (M ∪ W) ∖ X
lit_dark X M {W} off f =
    ext M ((M ∪ W) ∖ X) (λ i h. has_without (M ∪ W) X (has_left M W h) (λ x. off.none i x h))
    (λ i h. go i (without_right (M ∪ W) X h) (union_cases M W (without_left (M ∪ W) X h)))
  where
    go : (i : ℕ) → ¬ Has X i → Has M i ⊎ Has W i → Has M i
    go i n (inl h) = h
    go i n (inr h) = absurd (n (f.each i h))

module _ {rules pilots desk : List ℕ} {which facts : ℕ} (l : Lent rules which) (fits : which < 2 ^ ATOMS) (small : all_pilots pilots < 2 ^ ATOMS)
    (p : Piloted rules no_lists pilots (whole_of which facts) (all_pilots pilots)) (off : Apart facts (all_pilots pilots))
    (laid : LaidOut rules no_lists pilots (with_inputs (whole_of which facts) (all_pilots pilots)) desk) where
  abbrev X : ℕ
  X = all_pilots pilots

  hidden : hidden_of (with_inputs (whole_of which facts) X) facts ≡ X
  hidden = added_hidden facts X off

  no_pilot : {M : ℕ} → Settled rules which facts M → Apart X M
  no_pilot {M} s = answers_off p.spare off answers
    where
      answers : AnswersInputs rules which facts M
      answers = record { answer = (decides_answer_set (lent rules) which (M ∩ facts) M fits).yes (settled_belongs {heads = no_lists} s).answers }

  pilots_serve : Serves rules desk (with_inputs (whole_of which facts) X) facts
  pilots_serve = record {
    prepared = piloted_ready refl refl (whole_searchable l) laid;
    sound = λ N w f. rw hidden
        (belongs_settled (record { each = λ i h. has_without N X (f.each i h) (off.none i h) }) (dark_belongs p (whole_searchable l) fits small laid N w));
    complete = λ M s. record {
      whole = M ∪ lit_at rules pilots M;
      wanted = record {
        belongs = lit_wired p (whole_searchable l) fits small laid M (no_pilot s) (settled_belongs s);
        completes = record {
          has_up = record { each = λ i h. has_left M (lit_at rules pilots M) ((settled_facts s).each i h) };
          no_dropped = record { none = λ i h. absurd (has_none h) };
        };
      };
      is = rw hidden (lit_dark X M (no_pilot s) (lit_within p M));
    };
  }

-- the desk that was laid out
pub desk_serves : {rules pilots desk : List ℕ} {which facts x d : ℕ} {u v : Job} → Lent rules which → which < 2 ^ ATOMS → x < 2 ^ ATOMS
    → v ≡ whole_of which facts → d ≡ outside facts → Piloted rules no_lists pilots v (all_pilots pilots)
    → AllDown (all_pilots pilots) (record { up = facts; dropped = d }) → x ≡ all_pilots pilots → u ≡ with_inputs v x → LaidOut rules no_lists pilots u desk
    → Serves rules desk (unit_of desk which facts) facts
desk_serves {rules} {pilots} {desk} {which} {facts} {x} {u = u} {v} l fits small e f p a g h laid =
    subst (λ (y : List ℕ). Serves rules desk (with_inputs (whole_of which facts) (all_pilots y)) facts) (sym laid.same_pilots)
    (pilots_serve l fits (rw g at small) (rw e at p) a.not_up (rw (h, g, e) at laid))

-- ---- where questions begin

module _ {rules desk : List ℕ} {unit : Job} {facts : ℕ} (y : Serves rules desk unit facts) where
  -- at first the facts are up, and what is told of that is known of every answer set
  pub root_stands : {memory : List ℕ} {t : State} → Remembers (Wired rules [] no_lists desk unit) memory
      → Narrows (Wired rules [] no_lists desk unit) (record { up = facts; dropped = 0 }) t → Standing rules desk memory unit facts t
  root_stands m n = record { serves = y; remembers = m; facts_up = n.up_grows }

  pub root_rooted : {t : State} → Narrows (Wired rules [] no_lists desk unit) (record { up = facts; dropped = 0 }) t → Rooted rules desk unit facts t
  root_rooted n = record {
    each = λ M s. let f = y.complete M s in record {
      whole = f.whole;
      wanted = record { belongs = f.wanted.belongs; completes = n.keeps f.whole f.wanted.belongs f.wanted.completes };
      is = f.is;
    };
  }

module _ {rules desk memory : List ℕ} {unit : Job} {facts : ℕ} {s : State} (r : Standing rules desk memory unit facts s) where
  pub stands_still : {after : List ℕ} → Remembers (Wired rules [] no_lists desk unit) after → Standing rules desk after unit facts s
  stands_still m = record { serves = r.serves; remembers = m; facts_up = r.facts_up }

  -- what fits is an answer set
  pub fits_settled : {M : ℕ} → Unpiloted rules desk unit facts s M → Settled rules unit.rules facts M
  fits_settled f =
      subst (Settled rules unit.rules facts) (sym f.is)
      (r.serves.sound f.whole f.wanted.belongs (record { each = λ i h. f.wanted.completes.has_up.each i (r.facts_up.each i h) }))

-- what fits the root are the answer sets
module _ {rules desk : List ℕ} {unit : Job} {which facts : ℕ} {s : State} where
  pub fits_answers : {memory : List ℕ} → Standing rules desk memory unit facts s → unit ≡ unit_of desk which facts → which < 2 ^ ATOMS → {M : ℕ}
      → Unpiloted rules desk unit facts s M → AnswerSet (lent rules) which facts M
  fits_answers r e h {M} f =
      (decides_answer_set (lent rules) which facts M h).yes
      (subst (λ (w : ℕ). Settled rules w facts M) (ap (λ (u : Job). u.rules) e) (fits_settled r f)).answers

  pub answers_fit : ((i : ℕ) → get_or rules i 0 < 2 ^ ATOMS) → facts < 2 ^ ATOMS → which < 2 ^ ATOMS → unit ≡ unit_of desk which facts
      → Rooted rules desk unit facts s → {M : ℕ} → AnswerSet (lent rules) which facts M → Unpiloted rules desk unit facts s M
  answers_fit g f h e t {M} q =
      t.each M
      (subst (λ (w : ℕ). Settled rules w facts M) (sym (ap (λ (u : Job). u.rules) e))
      (record { word = answer_word rules g f q; answers = decided_true (decides_answer_set (lent rules) which facts M h) q }))

-- ---- what is asked

module _ {s : State} where
  both_here : {N : ℕ} → Completes s N → Completes (both_of s s) N
  both_here c = record {
    has_up = record { each = λ i h. c.has_up.each i (one (union_cases s.up s.up h)) };
    no_dropped = record { none = λ i h. c.no_dropped.none i (one (union_cases s.dropped s.dropped h)) };
  }
    where
      one : {a i : ℕ} → Has a i ⊎ Has a i → Has a i
      one (inl h) = h
      one (inr h) = h

  here_both : {N : ℕ} → Completes (both_of s s) N → Completes s N
  here_both c = record {
    has_up = record { each = λ i h. c.has_up.each i (has_left s.up s.up h) };
    no_dropped = record { none = λ i h. c.no_dropped.none i (has_left s.dropped s.dropped h) };
  }

module _ {rules desk : List ℕ} {unit : Job} {facts : ℕ} {s : State} where
  pub asked_some : {N M : ℕ} → Witnessed (Wanted (Wired rules [] no_lists desk unit) (both_of s s)) (Some N) → M ≡ N ∖ hidden_of unit facts
      → Witnessed (Unpiloted rules desk unit facts s) (Some M)
  asked_some {N} (met g) f = met (record { whole = N; wanted = record { belongs = g.belongs; completes = here_both g.completes }; is = f })

  pub asked_none : Witnessed (Wanted (Wired rules [] no_lists desk unit) (both_of s s)) None → Witnessed (Unpiloted rules desk unit facts s) None
  asked_none (none n) = none (λ M f. n f.whole (record { belongs = f.wanted.belongs; completes = both_here f.wanted.completes }))
