-- Pilots that were tested: spare atoms, each of one table.
use Rattle.searching.proofs.Prelude.{◌≡◌, refl, sym, subst, ◌∙◌, Bool, true, List, ℕ, ◌+◌, ◌^◌, ◌≤◌, ◌<◌, arith}
use Rattle.searching.proofs.Prelude.{ℕ_discrete, get_or, replicate, get_or-replicate, Has, ◌⊆◌, subset, Apart, apart, ◌∪◌}
use Rattle.searching.proofs.Prelude.{below, union_in, has_none, has_left, has_right, has_lt, has_below, decides_apart}
use Rattle.searching.proofs.Prelude.{decides_subset, union_has, union_at, Taking, taking_end, MAX_TABLES, MAX_UNITS, lent, looks, inputs}
use Rattle.searching.proofs.Prelude.{InRule, in_head, in_positive, in_looks, State, PilotsWithin, Job, Spare, NoInputs, DistinctPilots, Piloted}
use Rattle.searching.proofs.Prelude.{AllDown, all_pilots, with_inputs}

-- ---- rules

-- the rule has no atom of x
abbrev pub Clear : List ℕ → ℕ → ℕ → Type 0
Clear rules x r = (i : ℕ) → InRule rules r i → ¬ Has x i

pub rule_clear : {rules : List ℕ} {x w r : ℕ} {t : Bool} → w ≡ (lent rules).head r ∪ ((lent rules).positive r ∪ looks rules r) → t ≡ apart w x → t ≡ true
    → Clear rules x r
rule_clear {rules} {x} {w} {r} {t} e f g i k h =
    ((decides_apart w x).yes (sym f ∙ g)).none i (rw e (go k)) h
  where
    go : InRule rules r i → Has ((lent rules).head r ∪ ((lent rules).positive r ∪ looks rules r)) i
    go (in_head q) = has_left ((lent rules).head r) ((lent rules).positive r ∪ looks rules r) q
    go (in_positive q) = has_right ((lent rules).head r) ((lent rules).positive r ∪ looks rules r) (has_left ((lent rules).positive r) (looks rules r) q)
    go (in_looks q) = has_right ((lent rules).head r) ((lent rules).positive r ∪ looks rules r) (has_right ((lent rules).positive r) (looks rules r) q)

pub all_clear : {rules : List ℕ} {which rest x : ℕ} → Taking which rest (Clear rules x) → rest ≡ 0 → Spare rules which x
all_clear t e = record { in_no_rule = λ r i h k. taking_end t e r h i k }

-- ---- tables

pub no_table : {rules : List ℕ} {x : ℕ} → NoInputs rules x 0
no_table = record { each = λ t l. absurd (omega (arith, l)) }

pub next_table : {rules : List ℕ} {x t w : ℕ} {b : Bool} → NoInputs rules x t → w ≡ inputs rules t → b ≡ apart w x → b ≡ true → NoInputs rules x (t + 1)
next_table {rules} {x} {t} {w} {b} k e f g = record { each = λ u l. go u l (ℕ_discrete t u) }
  where
    go : (u : ℕ) → u < t + 1 → Dec (t ≡ u) → Apart (inputs rules u) x
    go u l (yes q) = subst (λ (v : ℕ). Apart (inputs rules v) x) q (rw e at ((decides_apart w x).yes (sym f ∙ g)))
    go u l (no n) = k.each u (omega (arith, l, n))

pub all_tables : {rules : List ℕ} {x t : ℕ} → NoInputs rules x t → MAX_TABLES ≤ t → NoInputs rules x MAX_TABLES
all_tables k l = record { each = λ u m. k.each u (omega (arith, l, m)) }

-- ---- no atom twice

-- the first t pilots are in the word, and distinct
pub record DistinctBelow (pilots : List ℕ) (all t : ℕ) : Type 0 where
  pub in_all : (u : ℕ) → u < t → get_or pilots u 0 ⊆ all
  pub same : (u v a : ℕ) → u < t → v < t → Has (get_or pilots u 0) a → Has (get_or pilots v 0) a → u ≡ v

pub distinct_start : {pilots : List ℕ} → DistinctBelow pilots 0 0
distinct_start = record { in_all = λ u l. absurd (omega (arith, l)); same = λ u v a l. absurd (omega (arith, l)) }

pub distinct_next : {pilots : List ℕ} {all all' t : ℕ} {b : Bool} → DistinctBelow pilots all t → b ≡ apart all (get_or pilots t 0) → b ≡ true
    → all' ≡ all ∪ get_or pilots t 0 → DistinctBelow pilots all' (t + 1)
distinct_next {pilots} {all} {all'} {t} {b} k f g e = record {
  in_all = λ u l. rw e (grown u l (ℕ_discrete t u));
  same = λ u v a l m h i. go u v a l m h i (ℕ_discrete t u) (ℕ_discrete t v);
}
  where
    off : Apart all (get_or pilots t 0)
    off = (decides_apart all (get_or pilots t 0)).yes (sym f ∙ g)

    grown : (u : ℕ) → u < t + 1 → Dec (t ≡ u) → get_or pilots u 0 ⊆ all ∪ get_or pilots t 0
    grown u l (yes q) = record { each = λ a h. has_right all (get_or pilots t 0) (subst (λ (v : ℕ). Has (get_or pilots v 0) a) (sym q) h) }
    grown u l (no n) = record { each = λ a h. has_left all (get_or pilots t 0) ((k.in_all u (omega (arith, l, n))).each a h) }

    go : (u v a : ℕ) → u < t + 1 → v < t + 1 → Has (get_or pilots u 0) a → Has (get_or pilots v 0) a → Dec (t ≡ u) → Dec (t ≡ v) → u ≡ v
    go u v a l m h i (yes q) (yes r) = sym q ∙ r
    go u v a l m h i (yes q) (no r) =
        absurd (off.none a ((k.in_all v (omega (arith, m, r))).each a i) (subst (λ (w : ℕ). Has (get_or pilots w 0) a) (sym q) h))
    go u v a l m h i (no q) (yes r) =
        absurd (off.none a ((k.in_all u (omega (arith, l, q))).each a h) (subst (λ (w : ℕ). Has (get_or pilots w 0) a) (sym r) i))
    go u v a l m h i (no q) (no r) = k.same u v a (omega (arith, l, q)) (omega (arith, m, r)) h i

pub distinct_end : {pilots : List ℕ} {all t : ℕ} → DistinctBelow pilots all t → MAX_TABLES ≤ t → DistinctPilots pilots
distinct_end k l = record { same = λ u v a m n. k.same u v a (omega (arith, l, m)) (omega (arith, l, n)) }

-- ---- all together

pub tested_pilots : {rules heads pilots : List ℕ} {unit : Job} {s : State} {x w : ℕ} {a b c : Bool} → unit.predecessors < 2 ^ MAX_UNITS
    → x ≡ all_pilots pilots → a ≡ subset x s.dropped → a ≡ true → b ≡ apart s.up x → b ≡ true
    → w ≡ union_in MAX_UNITS unit.predecessors (λ v. get_or heads v 0) → c ≡ apart w x → c ≡ true → DistinctPilots pilots → NoInputs rules x MAX_TABLES
    → Spare rules unit.rules x → Piloted rules heads pilots unit x × AllDown x s
tested_pilots {rules} {heads} {pilots} {unit} {s} {x} {w} {a} {b} {c} few e ea fa eb fb ew ec fc d n sp = (
  record {
    spare = sp;
    no_inputs = n;
    no_heads = λ v h. record {
      none = λ i k.
          ((decides_apart w x).yes (sym ec ∙ fc)).none i
          (rw ew (union_has MAX_UNITS unit.predecessors (λ v. get_or heads v 0) v i (has_lt unit.predecessors MAX_UNITS few h) h k));
    };
    within = λ t l. record { each = λ i h. rw e (union_has MAX_TABLES (below MAX_TABLES) (λ t. get_or pilots t 0) t i l (has_below MAX_TABLES t l) h) };
    distinct = d;
  },
  record {
    dropped = (decides_subset x s.dropped).yes (sym ea ∙ fa);
    not_up = (decides_apart s.up x).yes (sym eb ∙ fb);
  },
)

-- ---- none

nothing : (t : ℕ) → t < MAX_TABLES → get_or (replicate {A = ℕ} MAX_TABLES 0) t 0 ≡ 0
nothing t l = get_or-replicate MAX_TABLES t 0 0 l

all_nothing : (i : ℕ) → ¬ Has (all_pilots (replicate MAX_TABLES 0)) i
all_nothing i h =
    let u = union_at MAX_TABLES (below MAX_TABLES) (λ t. get_or (replicate {A = ℕ} MAX_TABLES 0) t 0) i h in has_none (rw (nothing u.0 u.1) at u.3)

pub no_pilots : {rules heads : List ℕ} {unit : Job} → Piloted rules heads (replicate MAX_TABLES 0) unit (all_pilots (replicate MAX_TABLES 0))
no_pilots = record {
  spare = record { in_no_rule = λ r i h k. all_nothing i };
  no_inputs = record { each = λ t l. record { none = λ i h. all_nothing i } };
  no_heads = λ v h. record { none = λ i k. all_nothing i };
  within = λ t l. record { each = λ i h. absurd (has_none (rw (nothing t l) at h)) };
  distinct = record { same = λ t u a l m h. absurd (has_none (rw (nothing t l) at h)) };
}

pub none_down : {s : State} → AllDown (all_pilots (replicate MAX_TABLES 0)) s
none_down = record { dropped = record { each = λ i h. absurd (all_nothing i h) }; not_up = record { none = λ i h. all_nothing i } }

-- ---- more inputs

pub more_inputs : (unit : Job) (X : ℕ) {w : ℕ} → w ≡ unit.inputs ∪ X
    → ◌≡◌ {A = Job} (record { rules = unit.rules; inputs = w; predecessors = unit.predecessors; nearest = unit.nearest }) (with_inputs unit X)
more_inputs unit X e = rw e refl

pub pilots_within : (pilots : List ℕ) (inputs : ℕ) → PilotsWithin pilots (inputs ∪ all_pilots pilots)
pilots_within pilots inputs = record {
  each = λ t l. record {
    each = λ i h.
        has_right inputs (all_pilots pilots) (union_has MAX_TABLES (below MAX_TABLES) (λ t. get_or pilots t 0) t i l (has_below MAX_TABLES t l) h);
  };
}
