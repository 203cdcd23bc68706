-- "The longest plan has 2,465 bytes", 9 more with a GIVEN, 1,296 more with all TABLEs and USEs, 9 more with a SHOW, and 4 more with a COUNT: no layout
-- within the limits is longer, and one has as many.
use Rattle.reading.proofs.Prelude.{◌≡◌, refl, ap, ◌∙◌, List, [], ◌∷◌, flat_map, ℕ, zero, suc, ◌+◌, ◌*◌, ◌/◌, ◌%◌, ◌^◌, ◌≤◌, ◌<◌, arith, mul-suc}
use Rattle.reading.proofs.Prelude.{ones-le, length, replicate, length-append, has_none, MAX_TABLES, MAX_RULES, MAX_USES, MAX_UNITS, MAX_EDGES, Single}
use Rattle.reading.proofs.Prelude.{sizes, given, show, single, table, rule, usage, unit, edge, end, command_bytes, LONGEST_PLAN, count_bytes, given_bytes}
use Rattle.reading.proofs.Prelude.{table_bytes, rule_bytes, use_bytes, unit_bytes, edge_bytes, show_bytes, TableUse, OnceElement, Contents, commands, layout}
use Rattle.reading.proofs.Prelude.{All, GoodTable, GoodRule, GoodUse, WithinLimits, CountRight}
use Rattle.reading.proofs.Elements.{operands_long}
use Rattle.reading.proofs.ElementLists.{list_below, below_long, below_all, below_distinct}
use Rattle.reading.proofs.Pigeonhole.{edges_below, edges_long, edges_good, edges_distinct}

-- elements of k bytes each
pub elements_long : {A : Type 0} (f : A → List ℕ) (k : ℕ) → ((x : A) → length (f x) ≡ k) → (xs : List A)
    → length (flat_map f xs) ≡ k * length xs
unfolding flat_map
elements_long f k e [] = omega arith
elements_long f k e (x ∷ xs) =
    length-append (f x) (flat_map f xs) ∙ omega (arith, e x, elements_long f k e xs, mul-suc k (length xs))

pub commands_long : (c : Contents)
    → length (commands c)
    ≡ command_bytes (single sizes) * length (c.once sizes) + command_bytes (single given) * length (c.once given) + command_bytes table * length c.tables
    + command_bytes rule * length c.rules
    + command_bytes usage * length c.uses
    + command_bytes unit * length c.units
    + command_bytes edge * length c.edges
    + command_bytes (single show) * length (c.once show)
unfolding commands
commands_long c =
    simp length-append
    (omega (
      arith,
      elements_long count_bytes (command_bytes (single sizes)) (λ s. refl) (c.once sizes),
      elements_long given_bytes (command_bytes (single given)) (λ g. ap suc (operands_long (single given) g)) (c.once given),
      elements_long table_bytes (command_bytes table) (λ t. ap suc (operands_long table t)) c.tables,
      elements_long rule_bytes (command_bytes rule) (λ r. ap suc (operands_long rule r)) c.rules,
      elements_long use_bytes (command_bytes usage) (λ x. refl) c.uses,
      elements_long unit_bytes (command_bytes unit) (λ u. ap suc (operands_long unit u)) c.units,
      elements_long edge_bytes (command_bytes edge) (λ e. refl) c.edges,
      elements_long show_bytes (command_bytes (single show)) (λ w. ap suc (operands_long (single show) w)) (c.once show),
    ))

pub layout_at_most : (c : Contents) → WithinLimits c → length (layout c) ≤ LONGEST_PLAN
layout_at_most c w =
    simp length-append
    (omega (
      arith,
      commands_long c,
      w.under (single sizes),
      w.under (single given),
      w.under table,
      w.under rule,
      w.under usage,
      w.under unit,
      w.under edge,
      w.under (single show),
    ))

-- ---- one that is so long

all_replicate : {A : Type 0} (P : A → Type 0) (n : ℕ) (x : A) → P x → All P (replicate n x)
all_replicate P zero x h = tt
all_replicate P (suc n) x h = (h, all_replicate P n x h)

-- the uses of all tables with either sign, rule by rule
abbrev use_at : ℕ → TableUse
use_at i = record { rule = i / MAX_TABLES / 2; table = i % MAX_TABLES; sign = i / MAX_TABLES % 2 }

use_good : (i : ℕ) → i < MAX_USES → GoodUse MAX_RULES MAX_TABLES (use_at i)
use_good i l = record { rule_there = omega arith; table_there = omega arith; zero_or_one = omega arith }

use_own : (i j : ℕ) → use_at i ≡ use_at j → i ≡ j
use_own i j e =
    let high = halves (i / MAX_TABLES) (j / MAX_TABLES) (ap (λ (x : TableUse). x.rule) e) (ap (λ (x : TableUse). x.sign) e) in
    omega (arith, ap (λ (x : TableUse). x.table) e)
  where
    halves : (m n : ℕ) → m / 2 ≡ n / 2 → m % 2 ≡ n % 2 → m ≡ n
    halves m n p q = omega arith

-- a COUNT, a GIVEN, a SHOW, and as many tables, rules, uses, units and edges as there may be
one_each : (s : Single) → OnceElement s
one_each sizes = record { rules = MAX_RULES; units = MAX_UNITS; edges = MAX_EDGES }
one_each given = 0
one_each show = 0

longest : Contents
longest =
    record {
      once = λ s. one_each s ∷ [];
      tables = replicate MAX_TABLES (record { inputs = 0; truth = 0 });
      rules = replicate MAX_RULES (record { head = 1; positive = 0; negative = 0 });
      uses = list_below use_at MAX_USES;
      units = replicate {A = ℕ} MAX_UNITS 0;
      edges = edges_below MAX_EDGES;
    }

longest_within : WithinLimits longest
unfolding longest one_each
longest_within =
    record {
      under =
          elim [
            | single s ↦ omega arith
            | table ↦ omega arith
            | rule ↦ omega arith
            | usage ↦ omega (arith, below_long use_at MAX_USES)
            | unit ↦ omega arith
            | edge ↦ omega (arith, edges_long MAX_EDGES)
            | end ↦ omega arith
          ];
      good_once = elim [ sizes ↦ (tt, tt) | given ↦ (omega arith, tt) | show ↦ (omega arith, tt) ];
      good_tables = all_replicate GoodTable MAX_TABLES _
          (record {
            inputs_fit = omega arith;
            truth_fits = omega arith;
            few_inputs = omega (arith, ones-le 0 0 (omega arith));
            rows_there = λ j p. absurd (has_none p);
          });
      good_rules = all_replicate GoodRule MAX_RULES _
          (record {
            head_fits = omega arith;
            positive_fits = omega arith;
            negative_fits = omega arith;
            some_word = λ z. omega (arith, z.0);
            none_shared = record { none = λ i p. absurd (has_none p) };
          });
      good_uses = below_all use_at (GoodUse MAX_RULES MAX_TABLES) MAX_USES use_good;
      no_use_again = below_distinct use_at use_own MAX_USES;
      good_units = all_replicate (λ word. word < 2 ^ MAX_RULES) MAX_UNITS 0 (omega arith);
      good_edges = edges_good MAX_EDGES (omega arith);
      no_repeat = edges_distinct MAX_EDGES;
    }

longest_counted : CountRight longest
unfolding longest one_each
longest_counted = (record { rules_are = omega arith; units_are = omega arith; edges_are = omega (arith, edges_long MAX_EDGES) }, tt)

pub longest_there : (c : Contents) × WithinLimits c × CountRight c × (length (layout c) ≡ LONGEST_PLAN)
unfolding longest one_each
longest_there =
    (longest, longest_within, longest_counted, simp length-append (omega (arith, commands_long longest, below_long use_at MAX_USES, edges_long MAX_EDGES)))

pub longest_bytes : LONGEST_PLAN ≡ 3783
longest_bytes = refl
