-- The store: what it is at first, and what a write changes.
use Rattle.learning.proofs.Prelude.{◌≡◌, refl, sym, ap, subst, ◌∙◌, Bool, true, false, not, true≢false, false≢true, List, ◌++◌, ℕ, ◌+◌, ◌*◌, ◌%◌, ◌≤◌}
use Rattle.learning.proofs.Prelude.{◌<◌, arith, ℕ_discrete, ltb, length, get_or, set, take, replicate, length-set, length-replicate, get_or-replicate}
use Rattle.learning.proofs.Prelude.{get_or-append, get_or-set_same, get_or-set_other, get_or-take, length-take-le, mid_of, post_of, put_mid, same_len_mid}
use Rattle.learning.proofs.Prelude.{lt-ltb, le-ltb, not-true, not-false, Has, AtMostOne, Apart, apart, ◌∪◌, ◌∖◌, Decides, decides_apart, decides_iff}
use Rattle.learning.proofs.Prelude.{State, Avoids, Overlaps, RING, PAIRS, PLACE, MEMORY_WORDS, pair_at, AvoidsAll, Empty, Keeps, SamePairs, PairWritten}
use Rattle.learning.proofs.Prelude.{Learnt, with_pair, next_place, learnt_in, learnt_pairs, missing, News, NextNews}
use Rattle.learning.proofs.Nogoods.{overlap_avoided}

-- ---- at first

-- a pair of twice the same word, if that has an atom, is completed by nothing
same_overlaps : {s : State} {w a : ℕ} → Has w a → s.up ≡ w → s.dropped ≡ w → Overlaps s
same_overlaps {s} {w} {a} h u d = record { overlap = λ n. n.none a (rw u h) (rw d h) }

pub empty_of : {w a : ℕ} → Has w a → Empty (replicate MEMORY_WORDS w)
empty_of {w} h = record {
  long = length-replicate MEMORY_WORDS w;
  avoided = λ N. record {
    each = λ i l.
        overlap_avoided N
        (same_overlaps h (at_first (2 * i) (omega (arith, l))) (at_first (2 * i + 1) (omega (arith, l))));
  };
}
  where
    at_first : (k : ℕ) → k < MEMORY_WORDS → get_or (replicate MEMORY_WORDS w) k 0 ≡ w
    at_first k l = get_or-replicate MEMORY_WORDS k w 0 l

-- ---- writing

pub pair_of : {up dropped : ℕ} (n : State) → up ≡ n.up → dropped ≡ n.dropped → record { up = up; dropped = dropped } ≡ n
pair_of n e f = rw (e, f)

pub written : (store : List ℕ) (i : ℕ) (n : State) → 2 * i + 1 < length store
    → PairWritten i n store (set (set store (2 * i) n.up) (2 * i + 1) n.dropped)
written store i n l = record {
  same_length = length-set first (2 * i + 1) n.dropped ∙ length-set store (2 * i) n.up;
  here = pair_of n up_here (get_or-set_same first (2 * i + 1) n.dropped 0 long);
  others = λ j d.
      pair_of (pair_at store j) (other (2 * j) (omega (arith, d)) (omega (arith, d))) (other (2 * j + 1) (omega (arith, d)) (omega (arith, d)));
}
  where
    first : List ℕ
    first = set store (2 * i) n.up

    long : 2 * i + 1 < length first
    long = omega (arith, length-set store (2 * i) n.up, l)

    up_here : get_or (set first (2 * i + 1) n.dropped) (2 * i) 0 ≡ n.up
    up_here =
        get_or-set_other first (2 * i + 1) (2 * i) n.dropped 0 (λ e. omega (arith, e))
        ∙ get_or-set_same store (2 * i) n.up 0 (omega (arith, l))

    other : (k : ℕ) → ¬ (k ≡ 2 * i) → ¬ (k ≡ 2 * i + 1) → get_or (set first (2 * i + 1) n.dropped) k 0 ≡ get_or store k 0
    other k a b = get_or-set_other first (2 * i + 1) k n.dropped 0 b ∙ get_or-set_other store (2 * i) k n.up 0 a

-- a pair that is avoided may be written
pub keeps_written : {i : ℕ} {n : State} {before after : List ℕ} → PairWritten i n before after → Keeps (Avoids n) before after
keeps_written {i} {n} {before} {after} w = record {
  same_length = w.same_length;
  keeps = λ N q a. record { each = λ j l. go N q a j l (ℕ_discrete j i) };
}
  where
    go : (N : ℕ) → Avoids n N → AvoidsAll before N → (j : ℕ) → j < PAIRS → Dec (j ≡ i) → Avoids (pair_at after j) N
    go N q a j l (yes e) = subst (λ (x : State). Avoids x N) (sym (ap (pair_at after) e ∙ w.here)) q
    go N q a j l (no d) = subst (λ (x : State). Avoids x N) (sym (w.others j d)) (a.each j l)

pub keeps_refl : {Q : ℕ → Type 0} {store : List ℕ} → Keeps Q store store
keeps_refl = record { same_length = refl; keeps = λ N q a. a }

pub keeps_trans : {Q : ℕ → Type 0} {before between after : List ℕ} → Keeps Q before between → Keeps Q between after → Keeps Q before after
keeps_trans f g = record {
  same_length = g.same_length ∙ f.same_length;
  keeps = λ N q a. g.keeps N q (f.keeps N q a);
}

-- who has Q has what is kept
pub keeps_for : {Q R : ℕ → Type 0} {before after : List ℕ} → ((N : ℕ) → R N → Q N) → Keeps Q before after → Keeps R before after
keeps_for f k = record { same_length = k.same_length; keeps = λ N r a. k.keeps N (f N r) a }

-- words behind the pairs are of no account
behind : (store : List ℕ) (at v j : ℕ) → 2 * PAIRS ≤ at → j < PAIRS → pair_at (set store at v) j ≡ pair_at store j
behind store at v j b l =
    pair_of (pair_at store j) (get_or-set_other store at (2 * j) v 0 (λ e. omega (arith, e, b, l)))
    (get_or-set_other store at (2 * j + 1) v 0 (λ e. omega (arith, e, b, l)))

pub same_pairs : {memory : List ℕ} → SamePairs memory memory
same_pairs = record { same_length = refl; same = λ i l. refl }

pub same_trans : {before between after : List ℕ} → SamePairs before between → SamePairs between after → SamePairs before after
same_trans f g = record { same_length = g.same_length ∙ f.same_length; same = λ i l. g.same i l ∙ f.same i l }

pub same_behind : {before memory : List ℕ} (at v : ℕ) → SamePairs before memory → 2 * PAIRS ≤ at → SamePairs before (set memory at v)
same_behind {memory = memory} at v m b = record {
  same_length = length-set memory at v ∙ m.same_length;
  same = λ j l. behind memory at v j b l ∙ m.same j l;
}

pub keeps_same : {Q : ℕ → Type 0} {before after : List ℕ} → SamePairs before after → Keeps Q before after
keeps_same m = record {
  same_length = m.same_length;
  keeps = λ N q a. record { each = λ j l. subst (λ (x : State). Avoids x N) (sym (m.same j l)) (a.each j l) };
}

pub empty_same : {before after : List ℕ} → Empty before → SamePairs before after → Empty after
empty_same e m = record {
  long = m.same_length ∙ e.long;
  avoided = λ N. (keeps_same {Q = λ n. Unit {0}} m).keeps N tt (e.avoided N);
}

pub learnt_at : {n : State} {before between after : List ℕ} (i : ℕ) → i < RING → SamePairs before between → PairWritten i n between after
    → Learnt n before after
learnt_at i l m w = record {
  keeps = keeps_trans (keeps_same m) (keeps_written w);
  place = i;
  in_ring = l;
  stored = w.here;
}

-- the place behind this one
pub next_low : (place : ℕ) → place < RING → place + 1 ≡ next_place place
unfolding next_place
next_low place l = go (ltb place RING) (lt-ltb place RING l)
  where
    go : (b : Bool) → b ≡ true → place + 1 ≡ elim b [ true ↦ place + 1 | false ↦ RING + place % RING + 1 ]
    go true e = refl
    go false e = absurd (false≢true e)

pub next_high : (place : ℕ) → RING ≤ place → RING + place % RING + 1 ≡ next_place place
unfolding next_place
next_high place l = go (ltb place RING) (le-ltb place RING l)
  where
    go : (b : Bool) → b ≡ false → RING + place % RING + 1 ≡ elim b [ true ↦ place + 1 | false ↦ RING + place % RING + 1 ]
    go true e = absurd (true≢false e)
    go false e = refl

pub learnt_keeps : {n : State} {before memory between after : List ℕ} → SamePairs before memory → Learnt n memory between → SamePairs between after
    → Keeps (Avoids n) before after
learnt_keeps a l b = keeps_trans (keeps_same a) (keeps_trans l.keeps (keeps_same b))

pub learnt_is : (n : State) (memory : List ℕ) {between after : List ℕ} {next : ℕ} → next ≡ next_place (get_or memory PLACE 0) → between ≡ set memory PLACE next
    → after ≡ with_pair between (get_or memory PLACE 0 % RING) n → after ≡ learnt_in memory n
learnt_is n memory e m w =
    w ∙ ap (λ (l : List ℕ). with_pair l (get_or memory PLACE 0 % RING) n) (m ∙ ap (λ (v : ℕ). set memory PLACE v) e)

-- ---- news

-- whether a pair is news
pub not_news : {n s : State} {up dropped all : ℕ} {b : Bool} → up ≡ n.up ∖ s.up → dropped ≡ n.dropped ∖ s.dropped → all ≡ up ∪ dropped
    → Decides (AtMostOne all) b → not b ≡ true → Decides (News n s) false
not_news {b = b} u d e k t = record {
  yes = λ f. absurd (false≢true f);
  no = λ f w. k.no (not-true b t) (rw (e, u, d) w.few);
}

pub is_news : {n s : State} {up dropped all known : ℕ} {b r : Bool} → up ≡ n.up ∖ s.up → dropped ≡ n.dropped ∖ s.dropped → all ≡ up ∪ dropped
    → Decides (AtMostOne all) b → not b ≡ false → known ≡ s.up ∪ s.dropped → r ≡ apart all known → Decides (News n s) r
is_news {n} {s} {all = all} {known} {b} u d e k t m a =
    decides_iff {P = Apart all known} (λ f. record { few = rw same at (k.yes (not-false b t)); undecided = rw (same, m) at f })
    (λ w. rw (same, m) w.undecided)
    (rw a (decides_apart all known))
  where
    same : all ≡ missing n s
    same = rw (e, u, d)

-- the ones that were passed over are none
pub record Passing (memory : List ℕ) (from : ℕ) (s : State) (i : ℕ) : Type 0 where
  pub beyond : from ≤ i
  pub none : (j : ℕ) → from ≤ j → j < i → ¬ News (pair_at memory j) s

pub passing_start : {memory : List ℕ} {from : ℕ} {s : State} → Passing memory from s from
passing_start = record { beyond = omega arith; none = λ j l m. absurd (omega (arith, l, m)) }

pub passing_next : {memory : List ℕ} {from i : ℕ} {s n : State} {b : Bool} → Passing memory from s i → n ≡ pair_at memory i → Decides (News n s) b
    → b ≡ false → Passing memory from s (i + 1)
passing_next {memory} {from} {i} {s} p e d f = record { beyond = omega (arith, p.beyond); none = λ j l m. go j l m (ℕ_discrete j i) }
  where
    go : (j : ℕ) → from ≤ j → j < i + 1 → Dec (j ≡ i) → ¬ News (pair_at memory j) s
    go j l m (yes q) w = d.no f (rw e (subst (λ (x : ℕ). News (pair_at memory x) s) q w))
    go j l m (no q) w = p.none j l (omega (arith, m, q)) w

module _ (memory : List ℕ) (from : ℕ) {s : State} {a : Bool} (tested : a ≡ apart s.up s.dropped) where
  pub news_stopped : not a ≡ true → NextNews memory from s RING
  news_stopped t = record {
    news = λ l. absurd (omega (arith, l));
    passed = λ n. absurd ((decides_apart s.up s.dropped).no (sym tested ∙ not-true a t) n);
    stopped = λ n. refl;
  }

  module _ (t : not a ≡ false) {end : ℕ} (is : end ≡ learnt_pairs memory) where
    free : Apart s.up s.dropped
    free = (decides_apart s.up s.dropped).yes (sym tested ∙ not-false a t)

    pub news_met : {i : ℕ} {n : State} {b : Bool} → Passing memory from s i → i < end → n ≡ pair_at memory i → Decides (News n s) b → b ≡ true
        → NextNews memory from s i
    news_met p l e d f = record {
      news = λ k. (rw is at l, rw e at (d.yes f));
      passed = λ n j m k h. p.none j m k;
      stopped = λ n. absurd (n free);
    }

    pub news_none : {i : ℕ} → Passing memory from s i → end ≤ i → NextNews memory from s RING
    news_none p l = record {
      news = λ k. absurd (omega (arith, k));
      passed = λ n j m k h. p.none j m (omega (arith, l, h, is));
      stopped = λ n. refl;
    }

-- a part behind the pairs may be lent: what comes back in its place is as long
pub same_part : (memory part : List ℕ) (from words : ℕ) → 2 * PAIRS ≤ from → from ≤ length memory → length part ≡ length (mid_of from words memory)
    → SamePairs memory (put_mid from words memory part)
same_part memory part from words b l e = record {
  same_length = same_len_mid from words memory part e;
  same = λ i h. pair_of (pair_at memory i) (kept (2 * i) (omega (arith, h, b))) (kept (2 * i + 1) (omega (arith, h, b)));
}
  where
    kept : (j : ℕ) → j < from → get_or (put_mid from words memory part) j 0 ≡ get_or memory j 0
    kept j h =
        get_or-append (take from memory) (part ++ post_of from words memory) 0 j (omega (arith, h, length-take-le from memory l))
        ∙ get_or-take from memory j 0 h
