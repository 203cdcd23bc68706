-- The six constant words: bit j of the k-th is bit k of j.
use Rattle.contact_tables.proofs.Prelude.{◌≡◌, refl, subst, sym, List, [], ◌∷◌, Bool, true, false, not, ℕ, zero, suc, ◌^◌, ◌<◌, not-true, not-false}
use Rattle.contact_tables.proofs.Prelude.{arith, get_or, ATOMS, Has, has, apart, atom, ◌∩◌, ◌∪◌, ◌∖◌, word_below, Collects, has_of_test, lacks_of_test}
use Rattle.contact_tables.proofs.Prelude.{decides_has, has_lt, has_cut, cut_left, cut_right, has_without, without_left, without_right, collects_word}
use Rattle.contact_tables.proofs.Prelude.{collects_iff, MAX_INPUTS, ROWS, InColumn, BitAgrees}

abbrev pub columns : List ℕ
columns =
    0xaaaaaaaaaaaaaaaa
    ∷ 0xcccccccccccccccc
    ∷ 0xf0f0f0f0f0f0f0f0
    ∷ 0xff00ff00ff00ff00
    ∷ 0xffff0000ffff0000
    ∷ 0xffffffff00000000
    ∷ []

column_word : (k : ℕ) → k < MAX_INPUTS → get_or columns k 0 ≡ word_below ROWS (λ j. has j k)
unfolding word_below has ◌∪◌ atom
column_word zero l = refl
column_word (suc zero) l = refl
column_word (suc (suc zero)) l = refl
column_word (suc (suc (suc zero))) l = refl
column_word (suc (suc (suc (suc zero)))) l = refl
column_word (suc (suc (suc (suc (suc zero))))) l = refl
column_word (suc (suc (suc (suc (suc (suc k)))))) l = absurd (omega arith)

pub column_collects : (k : ℕ) → k < MAX_INPUTS → Collects (InColumn k) (get_or columns k 0)
column_collects k l =
    subst (λ (w : ℕ). Collects (InColumn k) w) (sym (column_word k l))
    (collects_iff (λ j p. record { row_lt = p.0; bit = p.1 }) (λ j p. (p.row_lt, p.bit))
    (collects_word ROWS (λ j. has j k) (λ j m. decides_has j k)))

-- ---- the rows whose bit k says of atom a what is known of it

in_column : {rows k column j : ℕ} → rows < 2 ^ ATOMS → Collects (InColumn k) column → Has rows j → Has j k → Has column j
in_column {rows} {j = j} fits c h b = c.all j (record { row_lt = let l : j < ATOMS = has_lt rows ATOMS fits h in omega arith; bit = b })

module _ {rows k a up dropped column r : ℕ} (fits : rows < 2 ^ ATOMS) (c : Collects (InColumn k) column) where
  pub sifted_up : Has up a → r ≡ rows ∩ column → Collects (λ j. Has rows j × BitAgrees up dropped a k j) r
  sifted_up u e = rw e (record {
    each = λ j h. (
      cut_left rows column h,
      record { when_up = λ p. (c.each j (cut_right rows column h)).bit; when_dropped = λ n. absurd (n u) },
    );
    all = λ j p. has_cut rows column p.0 (in_column fits c p.0 (p.1.when_up u));
  })

  pub sifted_dropped : ¬ Has up a → Has dropped a → r ≡ rows ∖ column → Collects (λ j. Has rows j × BitAgrees up dropped a k j) r
  sifted_dropped n d e = rw e (record {
    each = λ j h. (
      without_left rows column h,
      record {
        when_up = λ u. absurd (n u);
        when_dropped = λ p q b. without_right rows column h (in_column fits c (without_left rows column h) b);
      },
    );
    all = λ j p. has_without rows column p.0 (λ q. p.1.when_dropped n d (c.each j q).bit);
  })

pub sifted_open : {rows k a up dropped : ℕ} → ¬ Has up a → ¬ Has dropped a → Collects (λ j. Has rows j × BitAgrees up dropped a k j) rows
sifted_open n m = record {
  each = λ j h. (h, record { when_up = λ u. absurd (n u); when_dropped = λ p d. absurd (m d) });
  all = λ j p. p.0;
}

-- ---- what the code's tests of an atom say

pub test_has : (w a : ℕ) {x : ℕ} {t : Bool} → x ≡ atom a → t ≡ apart w x → not t ≡ true → Has w a
test_has w a {t = t} e f g = (decides_has w a).yes (has_of_test w a e f (not-true t g))

pub test_lacks : (w a : ℕ) {x : ℕ} {t : Bool} → x ≡ atom a → t ≡ apart w x → not t ≡ false → ¬ Has w a
test_lacks w a {t = t} e f g = (decides_has w a).no (lacks_of_test w a e f (not-false t g))
