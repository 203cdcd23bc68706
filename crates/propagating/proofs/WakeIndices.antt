-- The index of woken steps: its lists, the founded step, the tables, their sums, and all of it from zeros on; and the places of tables on an agenda.
use Rattle.propagating.proofs.Prelude.{◌≡◌, sym, subst, ◌∙◌, Bool, true, false, not, List, ◌⊎◌, inl, inr, ℕ, ◌+◌, ◌≤◌, arith, ℕ_discrete, eqb}
use Rattle.propagating.proofs.Prelude.{length, get_or, Has, Apart, apart, ◌∪◌, atom, AtMostOne, Decides, single_if, Collects, has_none, has_atom}
use Rattle.propagating.proofs.Prelude.{atom_only, decides_apart, decided, decided_true, decides_not, decides_equal, collects_iff, collects_has}
use Rattle.propagating.proofs.Prelude.{collects_same, collects_union, MAX_TABLES, lent, inputs, AddsAt, NotedAt, ByOne, Marked, TellsParity, ToldAtom}
use Rattle.propagating.proofs.Prelude.{adds_none, adds_iff, adds_trans, INDEX_WORDS, FOUNDED_PLACE, TABLES_PLACE, atoms_of, WakesList, WakesFounded}
use Rattle.propagating.proofs.Prelude.{WakesTable, WakesTables, TablePlace, SUMS_PLACE, WakesSums, WakesTold, Indexed, by_rule, by_list, by_loop}
use Rattle.propagating.proofs.Prelude.{by_table, by_sums, by_told, WakeIndex, Job}
use Rattle.atoms.proofs.Singles.{single_if_has, single_if_at}
use Rattle.narrowing.specs.Woken.{WOKEN_WORDS, SomeWakes}
use Rattle.parities.specs.Parity.{ParityTable, ParityAtom}

-- one list
pub list_added : (heads : List ℕ) (v : ℕ) {word : ℕ} {before after : List ℕ} → word ≡ atom v → Marked WOKEN_WORDS (get_or heads v 0) word before after
    → AddsAt (WakesList heads v) before after
list_added heads v {before = before} {after} e m = subst (λ (w : ℕ). Marked WOKEN_WORDS (get_or heads v 0) w before after) e m

-- whether a rule has a looped head atom
module _ (rules : List ℕ) (r looped : ℕ) {head : ℕ} {b : Bool} (reads : head ≡ (lent rules).head r) (tested : b ≡ apart head looped) where
  pub not_looped : b ≡ true → Apart ((lent rules).head r) looped
  not_looped e = subst (λ (h : ℕ). Apart h looped) reads ((decides_apart head looped).yes (sym tested ∙ e))

  pub is_looped : b ≡ false → ¬ Apart ((lent rules).head r) looped
  is_looped e a = (decides_apart head looped).no (sym tested ∙ e) (subst (λ (h : ℕ). Apart h looped) (sym reads) a)

-- the founded step, for the atoms of one rule
pub founded_added : (rules : List ℕ) (looped r : ℕ) {which word : ℕ} {before after : List ℕ}
    → ((Apart ((lent rules).head r) looped → ⊥) → which ≡ atoms_of rules r) → (Apart ((lent rules).head r) looped → which ≡ 0) → word ≡ atom FOUNDED_PLACE
    → Marked WOKEN_WORDS which word before after → AddsAt (WakesFounded rules looped r) before after
founded_added rules looped r {which} {word} f z e m = adds_iff into from m
  where
    into : (i q : ℕ) → NotedAt WOKEN_WORDS which word i q → WakesFounded rules looped r i q
    into i q k = go (decided (decides_apart ((lent rules).head r) looped))
      where
        go : Dec (Apart ((lent rules).head r) looped) → WakesFounded rules looped r i q
        go (yes a) = absurd (has_none (subst (λ (w : ℕ). Has w k.atom) (z a) k.in_set))
        go (no n) = record { is_looped = n; noted = rw (f n, e) at k }

    from : (i q : ℕ) → WakesFounded rules looped r i q → NotedAt WOKEN_WORDS which word i q
    from i q k = rw (f k.is_looped, e) k.noted

-- ---- tables

-- one table that has a pilot
pub table_added : (linked pilots : List ℕ) (t : ℕ) {which word : ℕ} {before after : List ℕ} → ¬ (get_or pilots t 0 ≡ 0)
    → which ≡ inputs linked t ∪ get_or pilots t 0 → word ≡ atom (TABLES_PLACE + t) → Marked WOKEN_WORDS which word before after
    → AddsAt (WakesTable linked pilots t) before after
table_added linked pilots t n e f m =
    adds_iff (λ i q k. record { has_pilot = n; noted = rw (e, f) at k }) (λ i q k. rw (e, f) k.noted) m

-- one that has none
pub table_left : {linked pilots : List ℕ} {t : ℕ} {table : List ℕ} → get_or pilots t 0 ≡ 0 → AddsAt (WakesTable linked pilots t) table table
table_left e = adds_none (λ i q k. k.has_pilot e)

-- from one table to the next
module _ {linked pilots : List ℕ} where
  pub tables_start : {table : List ℕ} → AddsAt (WakesTables linked pilots 0) table table
  tables_start = adds_none (λ i q k. let l = k.lower in omega (arith, l))

  pub tables_next : {t : ℕ} {before table after : List ℕ} → AddsAt (WakesTables linked pilots t) before table → AddsAt (WakesTable linked pilots t) table after
      → AddsAt (WakesTables linked pilots (t + 1)) before after
  tables_next {t} a b = adds_iff into from (adds_trans a b)
    where
      into : (i q : ℕ) → WakesTables linked pilots t i q ⊎ WakesTable linked pilots t i q → WakesTables linked pilots (t + 1) i q
      into i q (inl k) = record { table = k.table; lower = let l = k.lower in omega (arith, l); wakes = k.wakes }
      into i q (inr k) = record { table = t; lower = omega arith; wakes = k }

      from : (i q : ℕ) → WakesTables linked pilots (t + 1) i q → WakesTables linked pilots t i q ⊎ WakesTable linked pilots t i q
      from i q k = go (ℕ_discrete k.table t)
        where
          go : Dec (k.table ≡ t) → WakesTables linked pilots t i q ⊎ WakesTable linked pilots t i q
          go (yes e) = inr (subst (λ (x : ℕ). WakesTable linked pilots x i q) e k.wakes)
          go (no n) = inl (record { table = k.table; lower = let l = k.lower in omega (arith, l, n); wakes = k.wakes })

  pub tables_end : {t : ℕ} {before after : List ℕ} → AddsAt (WakesTables linked pilots t) before after → t ≤ MAX_TABLES → MAX_TABLES ≤ t
      → AddsAt (WakesTables linked pilots MAX_TABLES) before after
  tables_end {t} {before} {after} a l m = subst (λ (n : ℕ). AddsAt (WakesTables linked pilots n) before after) (omega arith) a

-- the places of tables, from one to the next
pub places_start : {pilots : List ℕ} → Collects (TablePlace pilots 0) 0
places_start = record { each = λ q h. absurd (has_none h); all = λ q k. let l = k.lower in omega (arith, l) }

pub places_next : (pilots : List ℕ) (t : ℕ) {word also r : ℕ} → Collects (TablePlace pilots t) word
    → also ≡ single_if (not (eqb (get_or pilots t 0) 0)) (TABLES_PLACE + t) → r ≡ word ∪ also → Collects (TablePlace pilots (t + 1)) r
places_next pilots t {word} {also} c e f = rw f (collects_iff into from (collects_union c (collects_has also)))
  where
    there : Decides (¬ (get_or pilots t 0 ≡ 0)) (not (eqb (get_or pilots t 0) 0))
    there = decides_not (decides_equal (get_or pilots t 0) 0)

    into : (q : ℕ) → TablePlace pilots t q ⊎ Has also q → TablePlace pilots (t + 1) q
    into q (inl k) = record { table = k.table; lower = let l = k.lower in omega (arith, l); has_pilot = k.has_pilot; place = k.place }
    into q (inr h) =
        let k = single_if_at (not (eqb (get_or pilots t 0) 0)) (TABLES_PLACE + t) (rw e at h) in
        record { table = t; lower = omega arith; has_pilot = there.yes k.0; place = sym k.1 }

    from : (q : ℕ) → TablePlace pilots (t + 1) q → TablePlace pilots t q ⊎ Has also q
    from q k = go (ℕ_discrete k.table t)
      where
        go : Dec (k.table ≡ t) → TablePlace pilots t q ⊎ Has also q
        go (yes p) =
            inr (rw (e, k.place, p) (single_if_has _ (TABLES_PLACE + t) (decided_true there (subst (λ (x : ℕ). ¬ (get_or pilots x 0 ≡ 0)) p k.has_pilot))))
        go (no n) = inl (record { table = k.table; lower = let l = k.lower in omega (arith, l, n); has_pilot = k.has_pilot; place = k.place })

pub places_end : {pilots : List ℕ} {t word : ℕ} → Collects (TablePlace pilots t) word → t ≤ MAX_TABLES → MAX_TABLES ≤ t
    → Collects (TablePlace pilots MAX_TABLES) word
places_end {pilots} {t} {word} c l m = subst (λ (n : ℕ). Collects (TablePlace pilots n) word) (omega arith) c

-- ---- the sums

-- two parity tables or more
pub sums_added : (linked pilots : List ℕ) {tables which word : ℕ} {one : Bool} {before after : List ℕ} → Collects (ParityTable linked pilots) tables
    → Decides (AtMostOne tables) one → one ≡ false → Collects (ParityAtom linked pilots) which → word ≡ atom SUMS_PLACE
    → Marked WOKEN_WORDS which word before after → AddsAt (WakesSums linked pilots) before after
sums_added linked pilots {tables} {which} {word} c o f d e m = adds_iff into from m
  where
    into : (i q : ℕ) → NotedAt WOKEN_WORDS which word i q → WakesSums linked pilots i q
    into i q k = record {
      tables = tables;
      are_parities = c;
      several = o.no f;
      atom = k.atom;
      of_table = d.each k.atom k.in_set;
      at = k.place;
      place = sym (atom_only SUMS_PLACE (rw e at k.in_word));
    }

    from : (i q : ℕ) → WakesSums linked pilots i q → NotedAt WOKEN_WORDS which word i q
    from i q k = record {
      atom = k.atom;
      in_set = d.all k.atom k.of_table;
      place = k.at;
      in_word = rw (e, k.place) (has_atom SUMS_PLACE);
    }

-- fewer
pub sums_left : {linked pilots : List ℕ} {tables : ℕ} {one : Bool} {table : List ℕ} → Collects (ParityTable linked pilots) tables
    → Decides (AtMostOne tables) one → one ≡ true → AddsAt (WakesSums linked pilots) table table
sums_left c o t = adds_none (λ i q k. k.several (subst AtMostOne (collects_same c k.are_parities) (o.yes t)))

-- two constraints that tell or more
pub told_added : (rules : List ℕ) (numbered : ℕ) {telling which word : ℕ} {one : Bool} {before after : List ℕ}
    → Collects (λ r. Has numbered r × TellsParity rules r) telling → Decides (AtMostOne telling) one → one ≡ false → Collects (ToldAtom rules numbered) which
    → word ≡ atom SUMS_PLACE → Marked WOKEN_WORDS which word before after → AddsAt (WakesTold rules numbered) before after
told_added rules numbered {telling} {which} {word} c o f d e m = adds_iff into from m
  where
    into : (i q : ℕ) → NotedAt WOKEN_WORDS which word i q → WakesTold rules numbered i q
    into i q k = record {
      telling = telling;
      are_telling = c;
      several = o.no f;
      atom = k.atom;
      of_rule = d.each k.atom k.in_set;
      at = k.place;
      place = sym (atom_only SUMS_PLACE (rw e at k.in_word));
    }

    from : (i q : ℕ) → WakesTold rules numbered i q → NotedAt WOKEN_WORDS which word i q
    from i q k = record {
      atom = k.atom;
      in_set = d.all k.atom k.of_rule;
      place = k.at;
      in_word = rw (e, k.place) (has_atom SUMS_PLACE);
    }

-- fewer
pub told_left : {rules : List ℕ} {numbered telling : ℕ} {one : Bool} {table : List ℕ} → Collects (λ r. Has numbered r × TellsParity rules r) telling
    → Decides (AtMostOne telling) one → one ≡ true → AddsAt (WakesTold rules numbered) table table
told_left c o t = adds_none (λ i q k. k.several (subst AtMostOne (collects_same c k.are_telling) (o.yes t)))

-- ---- all of it

pub index_of : {rules linked pilots heads : List ℕ} {unit : Job} {looped : ℕ} {before first second third fourth fifth after : List ℕ}
    → length before ≡ INDEX_WORDS → ((i : ℕ) → get_or before i 0 ≡ 0) → AddsAt (SomeWakes linked unit.rules) before first
    → AddsAt (ByOne (WakesList heads) unit.nearest) first second
    → AddsAt (ByOne (WakesFounded rules looped) unit.rules) second third → AddsAt (WakesTables linked pilots MAX_TABLES) third fourth
    → AddsAt (WakesSums linked pilots) fourth fifth → AddsAt (WakesTold rules unit.rules) fifth after
    → WakeIndex rules linked pilots heads unit looped after
index_of {rules} {linked} {pilots} {heads} {unit} {looped} {before} {after = after} l z a b c d f g = record {
  long = whole.same_length ∙ l;
  words = λ i. record { each = λ q h. go i q (whole.no_more i q h); all = λ q k. whole.added i q k };
}
  where
    into : (i q : ℕ) → ((((SomeWakes linked unit.rules i q ⊎ ByOne (WakesList heads) unit.nearest i q)
        ⊎ ByOne (WakesFounded rules looped) unit.rules i q) ⊎ WakesTables linked pilots MAX_TABLES i q) ⊎ WakesSums linked pilots i q)
        ⊎ WakesTold rules unit.rules i q → Indexed rules linked pilots heads unit looped i q
    into i q (inl (inl (inl (inl (inl k))))) = by_rule k
    into i q (inl (inl (inl (inl (inr k))))) = by_list k
    into i q (inl (inl (inl (inr k)))) = by_loop k
    into i q (inl (inl (inr k))) = by_table k
    into i q (inl (inr k)) = by_sums k
    into i q (inr k) = by_told k

    from : (i q : ℕ) → Indexed rules linked pilots heads unit looped i q
        → ((((SomeWakes linked unit.rules i q ⊎ ByOne (WakesList heads) unit.nearest i q)
        ⊎ ByOne (WakesFounded rules looped) unit.rules i q) ⊎ WakesTables linked pilots MAX_TABLES i q) ⊎ WakesSums linked pilots i q)
        ⊎ WakesTold rules unit.rules i q
    from i q (by_rule k) = inl (inl (inl (inl (inl k))))
    from i q (by_list k) = inl (inl (inl (inl (inr k))))
    from i q (by_loop k) = inl (inl (inl (inr k)))
    from i q (by_table k) = inl (inl (inr k))
    from i q (by_sums k) = inl (inr k)
    from i q (by_told k) = inr k

    whole : AddsAt (Indexed rules linked pilots heads unit looped) before after
    whole = adds_iff into from (adds_trans (adds_trans (adds_trans (adds_trans (adds_trans a b) c) d) f) g)

    go : (i q : ℕ) → Has (get_or before i 0) q ⊎ Indexed rules linked pilots heads unit looped i q → Indexed rules linked pilots heads unit looped i q
    go i q (inl h) = absurd (has_none (subst (λ (w : ℕ). Has w q) (z i) h))
    go i q (inr k) = k
