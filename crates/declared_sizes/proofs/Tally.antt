-- How many commands of each kind a layout has, told from its bytes alone: a byte tells its kind, and a kind how many bytes to step over. So plans with
-- the same bytes have equally many of each.
use Rattle.declared_sizes.proofs.Prelude.{◌≡◌, refl, ap, ◌∙◌, List, [], ◌∷◌, ◌++◌, append_assoc, flat_map, true, false, some, none, ℕ, zero, suc, ◌+◌}
use Rattle.declared_sizes.proofs.Prelude.{◌*◌, arith, mul-suc, eqb, length, drop, drop_at, Kind, single, sizes, given, show, table, rule, usage, unit}
use Rattle.declared_sizes.proofs.Prelude.{edge, end, byte_of, kind_of, operand_bytes, Contents, Element, end_bytes, commands, layout, count_bytes}
use Rattle.declared_sizes.proofs.Prelude.{given_bytes, table_bytes, rule_bytes, use_bytes, unit_bytes, edge_bytes, show_bytes, kind_of_byte, operands_of}
use Rattle.declared_sizes.proofs.Prelude.{operands_long}

-- 1 for a command of the kind, 0 for another
abbrev one_of : Kind → Kind → ℕ
one_of j k = elim (eqb (byte_of j) (byte_of k)) [ true ↦ 1 | false ↦ 0 ]

-- the commands of kind k, behind `skip` bytes of operands
unfoldable tally : Kind → ℕ → List ℕ → ℕ
tally k skip [] = 0
tally k (suc skip) (b ∷ rest) = tally k skip rest
tally k zero (b ∷ rest) = elim (kind_of b) [ none ↦ 0 | some j ↦ one_of j k + tally k (operand_bytes j) rest ]

module _ (k : Kind) where
  skipped : (n : ℕ) (s : List ℕ) → tally k n s ≡ tally k 0 (drop n s)
  unfolding tally
  skipped zero s = refl
  skipped (suc n) [] = refl
  skipped (suc n) (b ∷ s) = skipped n s

  -- one command more
  tally_one : (j : Kind) (x : Element j) (rest : List ℕ) → tally k 0 (byte_of j ∷ (operands_of j x ++ rest)) ≡ one_of j k + tally k 0 rest
  unfolding tally
  tally_one j x rest =
      rw (kind_of_byte j, tally)
      (ap (λ (n : ℕ). one_of j k + n)
      (skipped (operand_bytes j) (operands_of j x ++ rest) ∙ ap (tally k 0) (drop_at (operands_of j x) rest (operand_bytes j) (operands_long j x))))

  -- a whole group
  tally_group : (j : Kind) (xs : List (Element j)) (rest : List ℕ)
      → tally k 0 (flat_map (λ x. byte_of j ∷ operands_of j x) xs ++ rest) ≡ one_of j k * length xs + tally k 0 rest
  unfolding flat_map
  tally_group j [] rest = omega arith
  tally_group j (x ∷ xs) rest =
      ap (λ (s : List ℕ). tally k 0 (byte_of j ∷ s)) (append_assoc (operands_of j x) (flat_map (λ y. byte_of j ∷ operands_of j y) xs) rest)
      ∙ tally_one j x (flat_map (λ y. byte_of j ∷ operands_of j y) xs ++ rest)
      ∙ omega (arith, tally_group j xs rest, mul-suc (one_of j k) (length xs))

-- ---- the groups of a layout, from the last to the first

module _ (c : Contents) where
  abbrev from_shown : List ℕ
  from_shown = flat_map show_bytes (c.once show) ++ end_bytes

  abbrev from_edges : List ℕ
  from_edges = flat_map edge_bytes c.edges ++ from_shown

  abbrev from_units : List ℕ
  from_units = flat_map unit_bytes c.units ++ from_edges

  abbrev from_uses : List ℕ
  from_uses = flat_map use_bytes c.uses ++ from_units

  abbrev from_rules : List ℕ
  from_rules = flat_map rule_bytes c.rules ++ from_uses

  abbrev from_tables : List ℕ
  from_tables = flat_map table_bytes c.tables ++ from_rules

  abbrev from_given : List ℕ
  from_given = flat_map given_bytes (c.once given) ++ from_tables

  abbrev pub from_count : List ℕ
  from_count = flat_map count_bytes (c.once sizes) ++ from_given

  pub grouped : layout c ≡ from_count
  unfolding commands
  grouped = simp append_assoc

  -- each group counts for its own kind
  record Groups (k : Kind) : Type 0 where
    at_count : tally k 0 from_count ≡ one_of (single sizes) k * length (c.once sizes) + tally k 0 from_given
    at_given : tally k 0 from_given ≡ one_of (single given) k * length (c.once given) + tally k 0 from_tables
    at_tables : tally k 0 from_tables ≡ one_of table k * length c.tables + tally k 0 from_rules
    at_rules : tally k 0 from_rules ≡ one_of rule k * length c.rules + tally k 0 from_uses
    at_uses : tally k 0 from_uses ≡ one_of usage k * length c.uses + tally k 0 from_units
    at_units : tally k 0 from_units ≡ one_of unit k * length c.units + tally k 0 from_edges
    at_edges : tally k 0 from_edges ≡ one_of edge k * length c.edges + tally k 0 from_shown
    at_shown : tally k 0 from_shown ≡ one_of (single show) k * length (c.once show) + tally k 0 end_bytes
    at-end : tally k 0 end_bytes ≡ one_of end k + 0

  groups : (k : Kind) → Groups k
  unfolding tally kind_of
  groups k =
      record {
        at_count = tally_group k (single sizes) (c.once sizes) from_given;
        at_given = tally_group k (single given) (c.once given) from_tables;
        at_tables = tally_group k table c.tables from_rules;
        at_rules = tally_group k rule c.rules from_uses;
        at_uses = tally_group k usage c.uses from_units;
        at_units = tally_group k unit c.units from_edges;
        at_edges = tally_group k edge c.edges from_shown;
        at_shown = tally_group k (single show) (c.once show) end_bytes;
        at-end = refl;
      }

  tally_counts : tally (single sizes) 0 (layout c) ≡ length (c.once sizes)
  tally_counts = ap (tally (single sizes) 0) grouped ∙ omega (arith, groups (single sizes))

  tally_rules : tally rule 0 (layout c) ≡ length c.rules
  tally_rules = ap (tally rule 0) grouped ∙ omega (arith, groups rule)

  tally_units : tally unit 0 (layout c) ≡ length c.units
  tally_units = ap (tally unit 0) grouped ∙ omega (arith, groups unit)

  tally_edges : tally edge 0 (layout c) ≡ length c.edges
  tally_edges = ap (tally edge 0) grouped ∙ omega (arith, groups edge)

-- plans with the same bytes have as many COUNTs, RULEs, UNITs and EDGEs
pub record SameSizes (c d : Contents) : Type 0 where
  pub counts : length (c.once sizes) ≡ length (d.once sizes)
  pub rules : length c.rules ≡ length d.rules
  pub units : length c.units ≡ length d.units
  pub edges : length c.edges ≡ length d.edges

pub same_sizes : (c d : Contents) → layout c ≡ layout d → SameSizes c d
same_sizes c d e =
    record {
      counts = omega (arith, tally_counts c, tally_counts d, ap (tally (single sizes) 0) e);
      rules = omega (arith, tally_rules c, tally_rules d, ap (tally rule 0) e);
      units = omega (arith, tally_units c, tally_units d, ap (tally unit 0) e);
      edges = omega (arith, tally_edges c, tally_edges d, ap (tally edge 0) e);
    }
