-- The computing lists enumerate document 01's lists, and no other rising list does; so how long a list is can be told from them.
use Rattle.demands.proofs.Prelude.{◌≡◌, subst, ◌↔◌, List, ℕ, suc, ◌≤◌, ◌<◌, arith, length, Rising, rising_ext, members_rising, cut_rising, cut_of_list}
use Rattle.demands.proofs.Prelude.{MAX_RULES, LIST_WORDS, Units, GivenFree, Passes, reach, heads, Listed, Clean, with_last, last_passes, last_free}
use Rattle.demands.proofs.Prelude.{in_list, unit_list_of, last_list_of, Shown, ListOf, Long, FitsList}
use Rattle.demands.proofs.Decided.{unit_list_at, unit_list_has}

pub unit_list_rising : (T : Units) (u : ℕ) → Rising (unit_list_of T u)
unfolding unit_list_of
unit_list_rising T u = members_rising (in_list T (suc (reach T u)) u) (suc (heads T u))

pub list_once : {Member : ℕ → Type 0} {xs ys : List ℕ} → ListOf Member xs → ListOf Member ys → xs ≡ ys
list_once {xs = xs} {ys = ys} a b =
    rising_ext xs ys a.rising b.rising (λ M m. (b.members M).1 ((a.members M).0 m)) (λ M m. (a.members M).1 ((b.members M).0 m))

pub long_iff : {Member : ℕ → Type 0} {xs : List ℕ} → ListOf Member xs → Long Member ↔ (LIST_WORDS < length xs)
long_iff {xs = xs} a = (
  λ l. subst (λ (ys : List ℕ). LIST_WORDS < length ys) (list_once l.is a) l.above,
  λ l. record { list = xs; is = a; above = l },
)

pub fits_iff : {Member : ℕ → Type 0} {xs : List ℕ} → ListOf Member xs → FitsList Member ↔ (length xs ≤ LIST_WORDS)
fits_iff {xs = xs} a = (
  λ l. subst (λ (ys : List ℕ). length ys ≤ LIST_WORDS) (list_once l.is a) l.at_most,
  λ l. record { list = xs; is = a; at_most = l },
)

module _ (S : Units) (pass : Passes S) (free : GivenFree S) (small : S.rules ≤ MAX_RULES) where
  pub unit_list_of_lem : (u : ℕ) → u < S.units → ListOf (Listed S u) (unit_list_of S u)
  unit_list_of_lem u l = record {
    rising = unit_list_rising S u;
    members = λ M. (unit_list_at S pass free small u M l, unit_list_has S pass free small u M l);
  }

pub last_list_of_lem : (S : Units) → Passes S → GivenFree S → Clean S → S.rules ≤ MAX_RULES → ListOf (Shown S) (last_list_of S)
unfolding last_list_of with_last
last_list_of_lem S pass free clean small =
    let all = unit_list_of_lem (with_last S) (last_passes S clean pass) (last_free S free) small S.units (omega arith) in
    record {
      rising = cut_rising S.shown (unit_list_of (with_last S) S.units);
      members = cut_of_list S.shown (unit_list_of (with_last S) S.units) all.members;
    }
