-- The laws of questions: counts filled in one by one, words taken out one by one, and the answer put together.
use Rattle.questions.proofs.Prelude.{◌≡◌, refl, sym, ap, ap₂, ◌∙◌, Bool, true, false, List, [], ◌∷◌, ◌++◌, map, append-nil, ℕ, zero, suc, ◌+◌, ◌≤◌}
use Rattle.questions.proofs.Prelude.{◌<◌, arith, add-one, lt-ltb, le-ltb, length, get_or, take, set, length-append, length-take, length-drop, length-map}
use Rattle.questions.proofs.Prelude.{drop_of_length-le, replicate, take-suc, drop-cons, append_snoc, set_at, take_all, length-take-le, ext_get_or}
use Rattle.questions.proofs.Prelude.{get_or_at, padded, padded_nil, padded_long, padded_at, padded_snoc, MAX_QUESTIONS, fitting_count, counts_of}
use Rattle.questions.proofs.Prelude.{with_its_count, counted, outcome, answered, QuestionsAnswered, asked_of, with_counts, Asked, Question, Ok, Err}
use lib.ListN.{drop}
use Rattle.questions.proofs.QuestionCounts.{counts_mean}
use Rattle.questions.proofs.Held.{counts_long, count_is}

-- what stands in the place of a question that is not there
abbrev pub blank : Question
blank = record { up = 0; dropped = 0; count = 0 }

-- ---- a list written over another, from the front

module _ {X : Type 0} (new old : List X) where
  abbrev pub over : ℕ → List X
  over i = take i new ++ drop i old

  pub over_long : (i : ℕ) → i ≤ length new → length new ≡ length old → length (over i) ≡ length old
  over_long i l e = length-append (take i new) (drop i old) ∙ omega (arith, length-take i new, length-drop i old)

  -- what is not written over yet is old
  pub over_at : (i : ℕ) (d : X) → i < length new → i < length old → get_or (over i) i d ≡ get_or old i d
  over_at i d k l =
      ap (λ (r : List X). get_or (take i new ++ r) i d) (drop-cons old i d l)
      ∙ get_or_at (take i new) (get_or old i d) (drop (suc i) old) d i (length-take-le i new (omega arith))

  pub over_more : (i : ℕ) (d : X) → i < length new → i < length old → set (over i) i (get_or new i d) ≡ over (i + 1)
  over_more i d k l =
      ap (λ (r : List X). set (take i new ++ r) i (get_or new i d)) (drop-cons old i d l)
      ∙ set_at (take i new) (get_or old i d) (drop (suc i) old) (get_or new i d) i (length-take-le i new (omega arith))
      ∙ sym (append_snoc (take i new) (get_or new i d) (drop (suc i) old))
      ∙ ap (λ (r : List X). r ++ drop (suc i) old) (sym (take-suc new i d k))
      ∙ ap over (sym (add-one i))

  pub over_all : (i : ℕ) → length new ≤ i → length old ≤ i → over i ≡ new
  over_all i k l = ap₂ ◌++◌ (take_all i new k) (drop_of_length-le old {i = i} l) ∙ append-nil new

-- ---- counts filled in

pub with_counts_long : (qs : List Question) (cs : List ℕ) → length (with_counts qs cs) ≡ length qs
unfolding with_counts
with_counts_long [] cs = refl
with_counts_long (q ∷ qs) [] = refl
with_counts_long (q ∷ qs) (c ∷ cs) = ap suc (with_counts_long qs cs)

pub with_counts_at : (qs : List Question) (cs : List ℕ) (i : ℕ) → i < length qs → i < length cs
    → get_or (with_counts qs cs) i blank ≡ with_its_count (get_or qs i blank) (get_or cs i 0)
unfolding with_counts
with_counts_at [] cs i k l = absurd (omega arith)
with_counts_at (q ∷ qs) [] i k l = absurd (omega arith)
with_counts_at (q ∷ qs) (c ∷ cs) zero k l = refl
with_counts_at (q ∷ qs) (c ∷ cs) (suc i) k l = with_counts_at qs cs i (omega arith) (omega arith)

-- the first i counts are filled in
abbrev pub filling : List Question → List ℕ → ℕ → List Question
filling qs cs = over (with_counts qs cs) qs

module _ (qs : List Question) (cs : List ℕ) (few : length qs ≤ length cs) where
  pub filling_long : (i : ℕ) → i ≤ length qs → length (filling qs cs i) ≡ length qs
  filling_long i l = over_long (with_counts qs cs) qs i (omega (arith, with_counts_long qs cs)) (with_counts_long qs cs)

  pub filling_at : (i : ℕ) → i < length qs → get_or (filling qs cs i) i blank ≡ get_or qs i blank
  filling_at i l = over_at (with_counts qs cs) qs i blank (omega (arith, with_counts_long qs cs)) l

  pub filling_more : (i : ℕ) → i < length qs
      → set (filling qs cs i) i (with_its_count (get_or (filling qs cs i) i blank) (get_or cs i 0)) ≡ filling qs cs (i + 1)
  filling_more i l =
      ap (set (filling qs cs i) i) (ap (λ (q : Question). with_its_count q (get_or cs i 0)) (filling_at i l) ∙ sym (with_counts_at qs cs i l (omega arith)))
      ∙ over_more (with_counts qs cs) qs i blank (omega (arith, with_counts_long qs cs)) l

  pub filling_end : (i : ℕ) → length qs ≤ i → filling qs cs i ≡ with_counts qs cs
  filling_end i l = over_all (with_counts qs cs) qs i (omega (arith, with_counts_long qs cs)) l

-- the first i counts are filled in, of as many as there may be
pub record FilledIn (before : List Question) (counts : List ℕ) (after : List Question) (i : ℕ) : Type 0 where
  pub few : length before ≤ MAX_QUESTIONS
  pub all_counts : length counts ≡ MAX_QUESTIONS
  pub reached : i ≤ length before
  pub so_far : after ≡ filling before counts i

module _ {before after : List Question} {counts : List ℕ} {i : ℕ} (f : FilledIn before counts after i) where
  enough : length before ≤ length counts
  enough = omega (arith, f.few, f.all_counts)

  pub filled_more : i < length before → FilledIn before counts (set after i (with_its_count (get_or after i blank) (get_or counts i 0))) (i + 1)
  filled_more l =
      record {
        few = f.few;
        all_counts = f.all_counts;
        reached = omega arith;
        so_far =
            ap (λ (qs : List Question). set qs i (with_its_count (get_or qs i blank) (get_or counts i 0))) f.so_far
            ∙ filling_more before counts enough i l;
      }

  pub filled_end : length before ≤ i → after ≡ with_counts before counts
  filled_end l = f.so_far ∙ filling_end before counts enough i l

-- ---- words taken out

-- the words that f takes from the first i questions, zeros behind them
abbrev pub taking : (Question → ℕ) → List Question → ℕ → List ℕ
taking f qs i = padded MAX_QUESTIONS (map f (take i qs))

pub map-append : {X Y : Type 0} (f : X → Y) (xs ys : List X) → map f (xs ++ ys) ≡ map f xs ++ map f ys
map-append f [] ys = refl
map-append f (x ∷ xs) ys = ap (λ (l : List _). f x ∷ l) (map-append f xs ys)

module _ (f : Question → ℕ) (qs : List Question) (few : length qs ≤ MAX_QUESTIONS) where
  front_long : (i : ℕ) → i ≤ length qs → length (map f (take i qs)) ≡ i
  front_long i l = length-map (take i qs) f ∙ length-take-le i qs l

  pub taking_start : replicate MAX_QUESTIONS 0 ≡ taking f qs 0
  taking_start = sym (padded_nil MAX_QUESTIONS)

  pub taking_long : (i : ℕ) → i ≤ length qs → length (taking f qs i) ≡ MAX_QUESTIONS
  taking_long i l = padded_long MAX_QUESTIONS (map f (take i qs)) (omega (arith, front_long i l))

  pub taking_more : (i : ℕ) → i < length qs → set (taking f qs i) i (f (get_or qs i blank)) ≡ taking f qs (i + 1)
  taking_more i l =
      padded_snoc MAX_QUESTIONS (map f (take i qs)) i (f (get_or qs i blank)) (front_long i (omega arith)) (omega arith)
      ∙ ap (padded MAX_QUESTIONS) (sym (map-append f (take i qs) (get_or qs i blank ∷ [])))
      ∙ ap (λ (l : List Question). padded MAX_QUESTIONS (map f l)) (sym (take-suc qs i blank l) ∙ ap (λ (k : ℕ). take k qs) (sym (add-one i)))

  pub taking_end : (i : ℕ) → length qs ≤ i → taking f qs i ≡ padded MAX_QUESTIONS (map f qs)
  taking_end i l = ap (λ (l : List Question). padded MAX_QUESTIONS (map f l)) (take_all i qs l)

-- the words of the first i questions are taken out, of as many as there may be
pub record TakenOut (qs : List Question) (up dropped : List ℕ) (i : ℕ) : Type 0 where
  pub few : length qs ≤ MAX_QUESTIONS
  pub reached : i ≤ length qs
  pub up_is : up ≡ taking (λ q. q.up) qs i
  pub dropped_is : dropped ≡ taking (λ q. q.dropped) qs i

module _ {qs : List Question} where
  pub taken_out_start : length qs ≤ MAX_QUESTIONS → TakenOut qs (replicate MAX_QUESTIONS 0) (replicate MAX_QUESTIONS 0) 0
  taken_out_start l =
      record { few = l; reached = omega arith; up_is = taking_start (λ q. q.up) qs l; dropped_is = taking_start (λ q. q.dropped) qs l }

  module _ {up dropped : List ℕ} {i : ℕ} (t : TakenOut qs up dropped i) where
    pub taken_out_more : i < length qs → TakenOut qs (set up i (get_or qs i blank).up) (set dropped i (get_or qs i blank).dropped) (i + 1)
    taken_out_more l =
        record {
          few = t.few;
          reached = omega arith;
          up_is = ap (λ (xs : List ℕ). set xs i (get_or qs i blank).up) t.up_is ∙ taking_more (λ q. q.up) qs t.few i l;
          dropped_is =
              ap (λ (xs : List ℕ). set xs i (get_or qs i blank).dropped) t.dropped_is ∙ taking_more (λ q. q.dropped) qs t.few i l;
        }

    pub taken_out_end : length qs ≤ i → ◌≡◌ {A = Asked} (record { up = up; dropped = dropped }) (asked_of qs)
    unfolding asked_of
    taken_out_end l = λ j. record {
      up = (t.up_is ∙ taking_end (λ q. q.up) qs t.few i l) j;
      dropped = (t.dropped_is ∙ taking_end (λ q. q.dropped) qs t.few i l) j;
    }

-- ---- the answer

pub refused : (list : List ℕ) (qs : List Question) → MAX_QUESTIONS < length qs → QuestionsAnswered list qs qs (Err (record {}))
unfolding outcome answered
refused list qs l =
    record {
      outcome_is = ap (λ (b : Bool). elim b [ true ↦ Err (record {}) | false ↦ Ok tt ]) (sym (lt-ltb MAX_QUESTIONS (length qs) l));
      questions_are = ap (λ (b : Bool). elim b [ true ↦ qs | false ↦ map (counted list) qs ]) (sym (lt-ltb MAX_QUESTIONS (length qs) l));
      meaning = counts_mean list;
    }

-- counts that are right, filled in, are the answer
counted_all : (list : List ℕ) (qs : List Question) (cs : List ℕ) → length qs ≤ length cs
    → ((i : ℕ) → i < length qs → get_or cs i 0 ≡ fitting_count list (get_or qs i blank).up (get_or qs i blank).dropped)
    → with_counts qs cs ≡ map (counted list) qs
unfolding counted
counted_all list qs cs l right =
    ext_get_or blank (with_counts qs cs) (map (counted list) qs) (with_counts_long qs cs ∙ sym (length-map qs (counted list))) (λ i k.
    let j : i < length qs = omega (arith, with_counts_long qs cs) in
    with_counts_at qs cs i j (omega arith) ∙ ap (with_its_count (get_or qs i blank)) (right i j) ∙ sym (map_at (counted list) qs i j))
  where
    map_at : (f : Question → Question) (ys : List Question) (i : ℕ) → i < length ys → get_or (map f ys) i blank ≡ f (get_or ys i blank)
    map_at f [] i k = absurd (omega arith)
    map_at f (y ∷ ys) zero k = refl
    map_at f (y ∷ ys) (suc i) k = map_at f ys i (omega arith)

-- the word of a question stands in the array at the question's number
word_at : (f : Question → ℕ) (qs : List Question) (i : ℕ) → i < length qs → get_or (padded MAX_QUESTIONS (map f qs)) i 0 ≡ f (get_or qs i blank)
word_at f qs i l = padded_at MAX_QUESTIONS (map f qs) i (omega (arith, length-map qs f)) ∙ map_at qs i l
  where
    map_at : (ys : List Question) (i : ℕ) → i < length ys → get_or (map f ys) i 0 ≡ f (get_or ys i blank)
    map_at [] i k = absurd (omega arith)
    map_at (y ∷ ys) zero k = refl
    map_at (y ∷ ys) (suc i) k = map_at ys i (omega arith)

pub filled : (list : List ℕ) (qs zs : List Question) (asked : Asked) (cs : List ℕ) → length qs ≤ MAX_QUESTIONS → asked ≡ asked_of qs
    → cs ≡ counts_of list (length qs) asked.up asked.dropped → zs ≡ with_counts qs cs → QuestionsAnswered list qs zs (Ok tt)
unfolding outcome answered asked_of
filled list qs zs asked cs l ea ec ez =
    record {
      outcome_is = ap (λ (b : Bool). elim b [ true ↦ Err (record {}) | false ↦ Ok tt ]) (sym (le-ltb MAX_QUESTIONS (length qs) l));
      questions_are =
          ez ∙ counted_all list qs cs (omega (arith, ap length ec, counts_long list (length qs) asked.up asked.dropped)) right
          ∙ ap (λ (b : Bool). elim b [ true ↦ qs | false ↦ map (counted list) qs ]) (sym (le-ltb MAX_QUESTIONS (length qs) l));
      meaning = counts_mean list;
    }
  where
    right : (i : ℕ) → i < length qs → get_or cs i 0 ≡ fitting_count list (get_or qs i blank).up (get_or qs i blank).dropped
    right i k =
        ap (λ (xs : List ℕ). get_or xs i 0) ec ∙ count_is list (length qs) asked.up asked.dropped i k l
        ∙ ap₂ (fitting_count list) (ap (λ (a : Asked). get_or a.up i 0) ea ∙ word_at (λ q. q.up) qs i k)
        (ap (λ (a : Asked). get_or a.dropped i 0) ea ∙ word_at (λ q. q.dropped) qs i k)
