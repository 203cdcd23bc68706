-- The rows of the fault table as the code tries them: the first that fits refuses the command, and one that does not leads to the next.
use Rattle.reading.proofs.Prelude.{◌≡◌, sym, ap, ◌∙◌, Bool, true, false, not, List, ℕ, ◌*◌, ◌≤◌, ◌<◌, length, get_or, lt-ltb, le-ltb, apart, Plan}
use Rattle.reading.proofs.Prelude.{Truncated, OutOfOrder, TooMany, EmptyRule, ContradictoryBody, BadTable, BadUse, AbsentRule, BadEdge, Table, Use}
use Rattle.reading.proofs.Prelude.{Unit as UnitOf, Edge, Fault as Faulty, WORD_BYTES, word_at, Kind, table, rule, usage, unit, edge, of_kind, carrying}
use Rattle.reading.proofs.Prelude.{late, full, order_of, operand_bytes, empty_rule, contradictory, bad_table, bad_use, absent_rule, bad_edge}

-- ---- the rows of every kind: 4, 5 and 2

module _ (p : Plan) (at : ℕ) (k : Kind) (operands : List ℕ) {b : Bool} (t : b ≡ late p (order_of k)) where
  pub late_row : b ≡ true → Faulty (OutOfOrder at) ≡ of_kind p at k operands
  unfolding of_kind
  late_row f = simp (sym t ∙ f)

  module _ (in_order : b ≡ false) where
    pub full_row : full p k ≡ true → Faulty (TooMany at) ≡ of_kind p at k operands
    unfolding of_kind
    full_row f = simp (sym t ∙ in_order, f)

    pub short_row : full p k ≡ false → length operands < operand_bytes k → Faulty (Truncated at) ≡ of_kind p at k operands
    unfolding of_kind
    short_row room l = simp (sym t ∙ in_order, room, lt-ltb _ _ l)

-- ---- the rows of the operands, where the rows above do not fit

module _ (p : Plan) (at : ℕ) (operands : List ℕ) {b d : Bool} where
  module _ (t : b ≡ late p (order_of table)) (o : b ≡ false) (room : full p table ≡ false) (long : operand_bytes table ≤ length operands) {inputs truth : ℕ}
      (e₁ : inputs ≡ word_at 0 operands) (e₂ : truth ≡ word_at WORD_BYTES operands) (q : d ≡ bad_table inputs truth) where
    pub table_refused : d ≡ true → Faulty (BadTable at) ≡ of_kind p at table operands
    unfolding of_kind
    table_refused f = simp (sym t ∙ o, room, le-ltb _ _ long, ← e₁, ← e₂, sym q ∙ f)

    pub table_read : d ≡ false → Table inputs truth ≡ of_kind p at table operands
    unfolding of_kind carrying
    table_read f = simp (sym t ∙ o, room, le-ltb _ _ long, ← e₁, ← e₂, sym q ∙ f)

  module _ (t : b ≡ late p (order_of rule)) (o : b ≡ false) (room : full p rule ≡ false) (long : operand_bytes rule ≤ length operands)
      {head positive negative : ℕ} (e₁ : head ≡ word_at 0 operands) (e₂ : positive ≡ word_at WORD_BYTES operands)
      (e₃ : negative ≡ word_at (2 * WORD_BYTES) operands) (q : d ≡ empty_rule head positive negative) where
    pub empty_refused : d ≡ true → Faulty (EmptyRule at) ≡ of_kind p at rule operands
    unfolding of_kind
    empty_refused f = simp (sym t ∙ o, room, le-ltb _ _ long, ← e₁, ← e₂, ← e₃, sym q ∙ f)

    module _ (said : d ≡ false) {a : Bool} (s : a ≡ apart positive negative) where
      pub contradictory_refused : not a ≡ true → Faulty (ContradictoryBody at) ≡ of_kind p at rule operands
      unfolding of_kind contradictory
      contradictory_refused f = simp (sym t ∙ o, room, le-ltb _ _ long, ← e₁, ← e₂, ← e₃, sym q ∙ said, ap not (sym s) ∙ f)

  module _ (t : b ≡ late p (order_of usage)) (o : b ≡ false) (room : full p usage ≡ false) (long : operand_bytes usage ≤ length operands)
      (q : d ≡ bad_use p (get_or operands 0 0) (get_or operands 1 0) (get_or operands 2 0)) where
    pub use_refused : d ≡ true → Faulty (BadUse at) ≡ of_kind p at usage operands
    unfolding of_kind
    use_refused f = simp (sym t ∙ o, room, le-ltb _ _ long, sym q ∙ f)

    pub use_read : d ≡ false → Use (get_or operands 0 0) (get_or operands 1 0) (get_or operands 2 0) ≡ of_kind p at usage operands
    unfolding of_kind carrying
    use_read f = simp (sym t ∙ o, room, le-ltb _ _ long, sym q ∙ f)

  module _ (t : b ≡ late p (order_of unit)) (o : b ≡ false) (room : full p unit ≡ false) (long : operand_bytes unit ≤ length operands) {word : ℕ}
      (e : word ≡ word_at 0 operands) (q : d ≡ absent_rule p word) where
    pub unit_refused : d ≡ true → Faulty (AbsentRule at) ≡ of_kind p at unit operands
    unfolding of_kind
    unit_refused f = simp (sym t ∙ o, room, le-ltb _ _ long, ← e, sym q ∙ f)

    pub unit_read : d ≡ false → UnitOf word ≡ of_kind p at unit operands
    unfolding of_kind carrying
    unit_read f = simp (sym t ∙ o, room, le-ltb _ _ long, ← e, sym q ∙ f)

  module _ (t : b ≡ late p (order_of edge)) (o : b ≡ false) (long : operand_bytes edge ≤ length operands)
      (q : d ≡ bad_edge p (get_or operands 0 0) (get_or operands 1 0)) where
    pub edge_refused : d ≡ true → Faulty (BadEdge at) ≡ of_kind p at edge operands
    unfolding of_kind
    edge_refused f = simp (sym t ∙ o, le-ltb _ _ long, sym q ∙ f)

    pub edge_read : d ≡ false → Edge (get_or operands 0 0) (get_or operands 1 0) ≡ of_kind p at edge operands
    unfolding of_kind carrying
    edge_read f = simp (sym t ∙ o, le-ltb _ _ long, sym q ∙ f)
