-- The laws of questions as words: what stands where, a count written, and the whole put together again.
use Rattle.questions.proofs.Prelude.{◌≡◌, refl, sym, ap, ap₂, ◌∙◌, List, [], ◌∷◌, ◌++◌, ℕ, zero, suc, ◌+◌, ◌*◌, ◌/◌, ◌≤◌, ◌<◌, arith, length, get_or}
use Rattle.questions.proofs.Prelude.{set, replicate, length-append, MAX_QUESTIONS, counts_of, with_its_count, with_counts, asked_of, Asked, Question}
use Rattle.questions.proofs.Prelude.{Ok, Err}
use Rattle.questions.specs.QuestionWords.{questions_in, words_behind, in_words, Whole, AnsweredWords}
use Rattle.questions.proofs.Questions.{blank, filling, filling_long, filling_more, filling_end, refused, filled, taking, taking_start, taking_long}
use Rattle.questions.proofs.Questions.{taking_more, taking_end}

pub in_words_long : (qs : List Question) → length (in_words qs) ≡ 3 * length qs
unfolding in_words
in_words_long [] = refl
in_words_long (q ∷ qs) = let e = in_words_long qs in omega arith

behind_long : (ws : List ℕ) → length (words_behind ws) < 3
unfolding words_behind
behind_long [] = omega arith
behind_long (a ∷ []) = omega arith
behind_long (a ∷ b ∷ []) = omega arith
behind_long (a ∷ b ∷ c ∷ ws) = behind_long ws

-- the words are those of their questions and what is behind them
pub words_again : (ws : List ℕ) → ws ≡ in_words (questions_in ws) ++ words_behind ws
unfolding in_words questions_in words_behind
words_again [] = refl
words_again (a ∷ []) = refl
words_again (a ∷ b ∷ []) = refl
words_again (a ∷ b ∷ c ∷ ws) = ap (λ (l : List ℕ). a ∷ b ∷ c ∷ l) (words_again ws)

words_long : (ws : List ℕ) → length ws ≡ 3 * length (questions_in ws) + length (words_behind ws)
words_long ws =
    ap length (words_again ws) ∙ length-append (in_words (questions_in ws)) (words_behind ws)
    ∙ ap (λ (k : ℕ). k + length (words_behind ws)) (in_words_long (questions_in ws))

-- "the count of whole questions being a third of the length"
pub third : (ws : List ℕ) → length (questions_in ws) ≡ length ws / 3
third ws = omega (arith, words_long ws, behind_long ws)

-- ---- what stands where

module _ (rest : List ℕ) where
  up_at : (qs : List Question) (i : ℕ) → i < length qs → get_or (in_words qs ++ rest) (3 * i) 0 ≡ (get_or qs i blank).up
  unfolding in_words
  up_at [] i l = absurd (omega arith)
  up_at (q ∷ qs) zero l = refl
  up_at (q ∷ qs) (suc i) l =
      let e : 3 * suc i ≡ suc (suc (suc (3 * i))) = omega arith in
      ap (λ (k : ℕ). get_or (in_words (q ∷ qs) ++ rest) k 0) e ∙ up_at qs i (omega arith)

  dropped_at : (qs : List Question) (i : ℕ) → i < length qs → get_or (in_words qs ++ rest) (3 * i + 1) 0 ≡ (get_or qs i blank).dropped
  unfolding in_words
  dropped_at [] i l = absurd (omega arith)
  dropped_at (q ∷ qs) zero l = refl
  dropped_at (q ∷ qs) (suc i) l =
      let e : 3 * suc i + 1 ≡ suc (suc (suc (3 * i + 1))) = omega arith in
      ap (λ (k : ℕ). get_or (in_words (q ∷ qs) ++ rest) k 0) e ∙ dropped_at qs i (omega arith)

  -- a count is written
  count_set : (qs : List Question) (i c : ℕ) → i < length qs
      → set (in_words qs ++ rest) (3 * i + 2) c ≡ in_words (set qs i (with_its_count (get_or qs i blank) c)) ++ rest
  unfolding in_words
  count_set [] i c l = absurd (omega arith)
  count_set (q ∷ qs) zero c l = refl
  count_set (q ∷ qs) (suc i) c l =
      let e : 3 * suc i + 2 ≡ suc (suc (suc (3 * i + 2))) = omega arith in
      ap (λ (k : ℕ). set (in_words (q ∷ qs) ++ rest) k c) e ∙ ap (λ (t : List ℕ). q.up ∷ q.dropped ∷ q.count ∷ t) (count_set qs i c (omega arith))

-- ---- the words are taken out

-- the question at a number, from the words
at_number : (f : Question → ℕ) (at : ℕ → ℕ)
    → ((rest : List ℕ) (qs : List Question) (i : ℕ) → i < length qs → get_or (in_words qs ++ rest) (at i) 0 ≡ f (get_or qs i blank))
    → (ws : List ℕ) (i : ℕ) → i < length (questions_in ws) → get_or ws (at i) 0 ≡ f (get_or (questions_in ws) i blank)
at_number f at law ws i l = ap (λ (l : List ℕ). get_or l (at i) 0) (words_again ws) ∙ law (words_behind ws) (questions_in ws) i l

-- the words of the first i questions are taken out
pub record Taken (words : List ℕ) (n : ℕ) (up dropped : List ℕ) (i : ℕ) : Type 0 where
  pub whole : Whole words n
  pub reached : i ≤ n
  pub up_is : up ≡ taking (λ q. q.up) (questions_in words) i
  pub dropped_is : dropped ≡ taking (λ q. q.dropped) (questions_in words) i

few : {words : List ℕ} {n : ℕ} → Whole words n → length (questions_in words) ≤ MAX_QUESTIONS
few w = omega (arith, w.count_is, w.at_most)

pub words_within : {words : List ℕ} {n i : ℕ} → Whole words n → i < n → 3 * i + 2 < length words
words_within {words} w l = omega (arith, w.count_is, words_long words)

module _ {words : List ℕ} {n : ℕ} where
  pub taken_start : Whole words n → Taken words n (replicate MAX_QUESTIONS 0) (replicate MAX_QUESTIONS 0) 0
  taken_start w =
      record {
        whole = w;
        reached = omega arith;
        up_is = taking_start (λ q. q.up) (questions_in words) (few w);
        dropped_is = taking_start (λ q. q.dropped) (questions_in words) (few w);
      }

  module _ {up dropped : List ℕ} {i : ℕ} (t : Taken words n up dropped i) where
    in_reach : i ≤ length (questions_in words)
    in_reach = omega (arith, t.reached, t.whole.count_is)

    pub up_long : length up ≡ MAX_QUESTIONS
    up_long = ap length t.up_is ∙ taking_long (λ q. q.up) (questions_in words) (few t.whole) i in_reach

    pub dropped_long : length dropped ≡ MAX_QUESTIONS
    dropped_long = ap length t.dropped_is ∙ taking_long (λ q. q.dropped) (questions_in words) (few t.whole) i in_reach

    pub taken_more : i < n → Taken words n (set up i (get_or words (3 * i) 0)) (set dropped i (get_or words (3 * i + 1) 0)) (i + 1)
    taken_more l =
        let k : i < length (questions_in words) = omega (arith, t.whole.count_is) in
        record {
          whole = t.whole;
          reached = omega arith;
          up_is =
              ap₂ (λ (xs : List ℕ) (x : ℕ). set xs i x) t.up_is (at_number (λ q. q.up) (λ i. 3 * i) up_at words i k)
              ∙ taking_more (λ q. q.up) (questions_in words) (few t.whole) i k;
          dropped_is =
              ap₂ (λ (xs : List ℕ) (x : ℕ). set xs i x) t.dropped_is (at_number (λ q. q.dropped) (λ i. 3 * i + 1) dropped_at words i k)
              ∙ taking_more (λ q. q.dropped) (questions_in words) (few t.whole) i k;
        }

    pub taken_end : n ≤ i → ◌≡◌ {A = Asked} (record { up = up; dropped = dropped }) (asked_of (questions_in words))
    unfolding asked_of
    taken_end l =
        let k : length (questions_in words) ≤ i = omega (arith, t.whole.count_is) in
        λ j. record {
          up = (t.up_is ∙ taking_end (λ q. q.up) (questions_in words) (few t.whole) i k) j;
          dropped = (t.dropped_is ∙ taking_end (λ q. q.dropped) (questions_in words) (few t.whole) i k) j;
        }

-- ---- the counts are written

pub record Putting (before : List ℕ) (n : ℕ) (counts after : List ℕ) (i : ℕ) : Type 0 where
  pub whole : Whole before n
  pub all_counts : length counts ≡ MAX_QUESTIONS
  pub reached : i ≤ n
  pub so_far : after ≡ in_words (filling (questions_in before) counts i) ++ words_behind before

module _ {before : List ℕ} {n : ℕ} {counts : List ℕ} where
  pub putting_start : Whole before n → length counts ≡ MAX_QUESTIONS → Putting before n counts before 0
  putting_start w e = record { whole = w; all_counts = e; reached = omega arith; so_far = words_again before }

  module _ {after : List ℕ} {i : ℕ} (p : Putting before n counts after i) where
    enough : length (questions_in before) ≤ length counts
    enough = omega (arith, p.whole.count_is, p.whole.at_most, p.all_counts)

    filled_long : length (filling (questions_in before) counts i) ≡ length (questions_in before)
    filled_long = filling_long (questions_in before) counts enough i (omega (arith, p.reached, p.whole.count_is))

    pub putting_long : length after ≡ length before
    putting_long =
        ap length p.so_far ∙ length-append (in_words (filling (questions_in before) counts i)) (words_behind before)
        ∙ omega (arith, in_words_long (filling (questions_in before) counts i), filled_long, words_long before)

    pub putting_more : i < n → Putting before n counts (set after (3 * i + 2) (get_or counts i 0)) (i + 1)
    putting_more l =
        let k : i < length (questions_in before) = omega (arith, p.whole.count_is) in
        record {
          whole = p.whole;
          all_counts = p.all_counts;
          reached = omega arith;
          so_far =
              ap (λ (ws : List ℕ). set ws (3 * i + 2) (get_or counts i 0)) p.so_far
              ∙ count_set (words_behind before) (filling (questions_in before) counts i) i (get_or counts i 0) (omega (arith, filled_long))
              ∙ ap (λ (qs : List Question). in_words qs ++ words_behind before) (filling_more (questions_in before) counts enough i k);
        }

    pub putting_end : n ≤ i → after ≡ in_words (with_counts (questions_in before) counts) ++ words_behind before
    putting_end l =
        p.so_far
        ∙ ap (λ (qs : List Question). in_words qs ++ words_behind before)
        (filling_end (questions_in before) counts enough i (omega (arith, p.whole.count_is)))

-- ---- the answer

pub whole_third : (ws : List ℕ) (n : ℕ) → n ≡ length ws / 3 → n ≤ MAX_QUESTIONS → Whole ws n
whole_third ws n e l = record { count_is = e ∙ sym (third ws); at_most = l }

pub refused_words : (list ws : List ℕ) → MAX_QUESTIONS < length ws / 3 → AnsweredWords list ws ws (Err (record {}))
refused_words list ws l =
    let a = refused list (questions_in ws) (omega (arith, third ws)) in
    record {
      outcome_is = a.outcome_is;
      words_are = words_again ws ∙ ap (λ (qs : List Question). in_words qs ++ words_behind ws) a.questions_are;
      meaning = a.meaning;
    }

pub filled_words : (list ws zs : List ℕ) (asked : Asked) (cs : List ℕ) (n : ℕ) → Whole ws n → asked ≡ asked_of (questions_in ws)
    → cs ≡ counts_of list n asked.up asked.dropped → zs ≡ in_words (with_counts (questions_in ws) cs) ++ words_behind ws → AnsweredWords list ws zs (Ok tt)
filled_words list ws zs asked cs n w ea ec ez =
    let right = ec ∙ ap (λ (k : ℕ). counts_of list k asked.up asked.dropped) w.count_is in
    let a = filled list (questions_in ws) (with_counts (questions_in ws) cs) asked cs (few w) ea right refl in
    record { outcome_is = a.outcome_is; words_are = ez ∙ ap (λ (qs : List Question). in_words qs ++ words_behind ws) a.questions_are; meaning = a.meaning }
