-- A word of which one atom has to go one way: none left, one, or several.
use Rattle.states.proofs.Prelude.{◌≡◌, Bool, true, false, ℕ, ◌⊆◌, ◌∖◌, AtMostOne, has_none, has_without, empty, without_left, without_right, Completes, SomeUp}
use Rattle.states.proofs.Prelude.{SomeGoes, Narrows, OneGoes, clashed, decided_word, State}
use Rattle.states.proofs.Narrows.{narrows_refl, narrows_when, clash_overlaps, clash_narrows, up_narrows, down_narrows}

-- with no atom nothing completes the state
clash_one : {K : ℕ → Type 0} {word : ℕ} {s t : State} → ((N : ℕ) → ¬ K N) → t ≡ clashed s → OneGoes K word s t
clash_one {s = s} f e = rw e (record {
  narrows = clash_narrows s (λ N k p. f N k);
  stops = λ z. clash_overlaps s;
})

pub none_goes : {word : ℕ} (phase : Bool) {s t : State} → word ≡ 0 → t ≡ clashed s → OneGoes (SomeGoes word phase) word s t
none_goes true z e = clash_one (λ N k. has_none (rw z at k.in_word)) e
none_goes false z e = clash_one (λ N k. has_none (rw z at k.in_word)) e

pub last_goes : {word : ℕ} (phase : Bool) {s t : State} → ¬ (word ≡ 0) → AtMostOne word → t ≡ decided_word s word phase
    → OneGoes (SomeGoes word phase) word s t
last_goes {word} true {s} n o e = rw e (record {
  narrows = up_narrows s word (λ N k p. record { each = λ i h. rw (o.same k.atom i k.in_word h) at k.is_up });
  stops = λ z. absurd (n z);
})
last_goes {word} false {s} n o e = rw e (record {
  narrows = down_narrows s word (λ N k p. record { none = λ i h m. k.is_down (rw (o.same i k.atom h k.in_word) at m) });
  stops = λ z. absurd (n z);
})

pub several : {K : ℕ → Type 0} {word : ℕ} {s : State} → ¬ (word ≡ 0) → OneGoes K word s s
several n = record { narrows = narrows_refl; stops = λ z. absurd (n z) }

-- of a word that has an atom up, some atom that is not dropped is up
pub left_up : {word left : ℕ} {s : State} → left ≡ word ∖ s.dropped → (N : ℕ) → SomeUp word N → Completes s N → SomeUp left N
left_up {word} {s = s} e N k p = record {
  atom = k.atom;
  in_word = rw e (has_without word s.dropped k.in_word (λ d. p.no_dropped.none k.atom d k.is_up));
  is_up = k.is_up;
}

-- so it is enough to look at those; where all are dropped nothing completes the state
pub left_goes : {K : ℕ → Type 0} {word left : ℕ} {s t : State} → left ≡ word ∖ s.dropped
    → ((N : ℕ) → K N → Completes s N → SomeUp word N) → OneGoes (SomeUp left) left s t → Narrows K s t
left_goes e f g = narrows_when (λ N k p. left_up e N (f N k p) p) g.narrows

pub none_left : (word dropped : ℕ) {left : ℕ} → left ≡ word ∖ dropped → word ⊆ dropped → left ≡ 0
none_left word dropped e f = rw e (empty (word ∖ dropped) (λ i h. without_right word dropped h (f.each i (without_left word dropped h))))
