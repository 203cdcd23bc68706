-- Positions cut to head atoms, cut again or not cut at all.
use Rattle.splitting.proofs.Prelude.{◌≡◌, ℕ, ◌<◌, Has, ◌⊆◌, ◌∩◌, below, ext, has_cut, cut_left, cut_right, has_below, below_lt, Units, Holds}

-- of two cuts the narrower counts
pub cut_inner : (M H K : ℕ) → K ⊆ H → M ∩ H ∩ K ≡ M ∩ K
cut_inner M H K f =
    ext (M ∩ H ∩ K) (M ∩ K) (λ a p. has_cut M K (cut_left M H (cut_left (M ∩ H) K p)) (cut_right (M ∩ H) K p))
    (λ a p. has_cut (M ∩ H) K (has_cut M H (cut_left M K p) (f.each a (cut_right M K p))) (cut_right M K p))

pub cut_whole : (M H : ℕ) → M ⊆ H → M ∩ H ≡ M
cut_whole M H f = ext (M ∩ H) M (λ a p. cut_left M H p) (λ a p. has_cut M H p (f.each a p))

pub cut_within : (M H : ℕ) → M ∩ H ⊆ H
cut_within M H = record { each = λ a p. cut_right M H p }

pub cut_below : (M H : ℕ) → M ∩ H ⊆ M
cut_below M H = record { each = λ a p. cut_left M H p }

-- a larger position or a wider cut leaves more
pub cut_mono : (M N H K : ℕ) → M ⊆ N → H ⊆ K → M ∩ H ⊆ N ∩ K
cut_mono M N H K f g = record { each = λ a p. has_cut N K (f.each a (cut_left M H p)) (g.each a (cut_right M H p)) }

-- the numbers of u's rules
abbrev pub numbers : Units → ℕ → ℕ
numbers S u = S.unit u ∩ below S.rules

pub has_number : (S : Units) (u r : ℕ) → Holds S u r → Has (numbers S u) r
has_number S u r h = has_cut (S.unit u) (below S.rules) h.holds (has_below S.rules r h.is_rule)

pub number_held : (S : Units) (u r : ℕ) → u < S.units → Has (numbers S u) r → Holds S u r
number_held S u r l h = record {
  is_unit = l;
  is_rule = below_lt S.rules (cut_right (S.unit u) (below S.rules) h);
  holds = cut_left (S.unit u) (below S.rules) h;
}
