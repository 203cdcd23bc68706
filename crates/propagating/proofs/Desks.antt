-- The desk: its parts stand where they are looked for.
use Rattle.propagating.proofs.Prelude.{◌≡◌, sym, ap, subst, ◌∙◌, Bool, List, [], ◌++◌, append_assoc, append-nil, ℕ, ◌+◌, ◌*◌, ◌≤◌, ◌<◌, arith, length}
use Rattle.propagating.proofs.Prelude.{take, drop, get_or, length-drop, paste, length-paste, take_all, length-take-le, get_or-take, get_or-drop, ◌∩◌, all_in}
use Rattle.propagating.proofs.Prelude.{bool_ext, MAX_TABLES, MAX_UNITS, LIST_WORDS, INDEX_WORDS, Belongs, Searchable, BACKERS_AT, INDEX_AT, PILOTS_AT}
use Rattle.propagating.proofs.Prelude.{LINKED_AT, DESK_WORDS, backers_of, pilots_of, linked_of, LaidOut, Prepared, Job}
use Rattle.atoms.proofs.Bounded.{all_in_at, all_in_intro}
use Rattle.pilots.specs.Linked.{LINKED_WORDS, Linked, PilotsWithin}
use Rattle.narrowing.specs.Backers.{Backers}
use Rattle.joining.specs.Joins.{is_listed, joins}
use Rattle.atoms.proofs.StoredWords.{stored_front, first_at, second_part}

-- put together of five parts
pub laid_out : {rules : List ℕ} {unit : Job} (heads d b w p l : List ℕ) {d₁ d₂ d₃ d₄ d₅ : List ℕ} → length d ≡ DESK_WORDS → MAX_UNITS ≤ length heads
    → Linked rules p unit.rules l → length p ≡ MAX_TABLES → length l ≡ LINKED_WORDS
    → Backers l unit.rules b → length w ≡ INDEX_WORDS
    → d₁ ≡ paste d 0 (take MAX_UNITS heads) (length (take MAX_UNITS heads))
    → d₂ ≡ paste d₁ BACKERS_AT b (length b) → d₃ ≡ paste d₂ INDEX_AT w (length w)
    → d₄ ≡ paste d₃ PILOTS_AT p (length p) → d₅ ≡ paste d₄ LINKED_AT l (length l)
    → length d₅ ≡ DESK_WORDS → LaidOut rules heads p unit d₅
laid_out {rules} {unit} heads d b w p l {d₁} {d₂} {d₃} {d₄} {d₅} long m links lp ll k n e₁ e₂ e₃ e₄ e₅ done = record {
  long = done;
  same_heads = λ v h. first_at (take MAX_UNITS heads) b (w ++ (p ++ l)) front k.long is v h ∙ get_or-take MAX_UNITS heads v 0 h;
  backed = subst (λ (x : List ℕ). Backers x unit.rules (backers_of d₅)) (sym linked_part) (subst (Backers l unit.rules) (sym backers_part) k);
  same_pilots = pilots_part;
  linked =
      subst (λ (x : List ℕ). Linked rules x unit.rules (linked_of d₅)) (sym pilots_part)
      (subst (Linked rules p unit.rules) (sym linked_part) links);
}
  where
    front : length (take MAX_UNITS heads) ≡ MAX_UNITS
    front = length-take-le MAX_UNITS heads m

    len₁ : length d₁ ≡ length d
    len₁ = ap length e₁ ∙ length-paste d 0 (take MAX_UNITS heads) (length (take MAX_UNITS heads)) (omega (arith, front, long)) (omega arith)

    len₂ : length d₂ ≡ length d
    len₂ = ap length e₂ ∙ length-paste d₁ BACKERS_AT b (length b) (omega (arith, k.long, len₁, long)) (omega arith) ∙ len₁

    len₃ : length d₃ ≡ length d
    len₃ = ap length e₃ ∙ length-paste d₂ INDEX_AT w (length w) (omega (arith, n, len₂, long)) (omega arith) ∙ len₂

    len₄ : length d₄ ≡ length d
    len₄ = ap length e₄ ∙ length-paste d₃ PILOTS_AT p (length p) (omega (arith, lp, len₃, long)) (omega arith) ∙ len₃

    front₂ : take INDEX_AT d₂ ≡ take MAX_UNITS heads ++ b
    front₂ =
        stored_front d₁ BACKERS_AT b {n = INDEX_AT} (omega (arith, len₁, long)) (omega (arith, k.long)) e₂
        ∙ ap (λ (t : List ℕ). t ++ b) (stored_front d 0 (take MAX_UNITS heads) {n = MAX_UNITS} (omega arith) (omega (arith, front)) e₁)

    front₃ : take PILOTS_AT d₃ ≡ (take MAX_UNITS heads ++ b) ++ w
    front₃ =
        stored_front d₂ INDEX_AT w {n = PILOTS_AT} (omega (arith, len₂, long)) (omega (arith, n)) e₃ ∙ ap (λ (t : List ℕ). t ++ w) front₂

    front₄ : take LINKED_AT d₄ ≡ ((take MAX_UNITS heads ++ b) ++ w) ++ p
    front₄ =
        stored_front d₃ PILOTS_AT p {n = LINKED_AT} (omega (arith, len₃, long)) (omega (arith, lp)) e₄ ∙ ap (λ (t : List ℕ). t ++ p) front₃

    whole : d₅ ≡ (((take MAX_UNITS heads ++ b) ++ w) ++ p) ++ l
    whole =
        sym (take_all DESK_WORDS d₅ (omega (arith, done)))
        ∙ stored_front d₄ LINKED_AT l {n = DESK_WORDS} (omega (arith, len₄, long)) (omega (arith, ll)) e₅
        ∙ ap (λ (t : List ℕ). t ++ l) front₄

    is : d₅ ≡ (take MAX_UNITS heads ++ b) ++ (w ++ (p ++ l))
    is =
        whole ∙ append_assoc ((take MAX_UNITS heads ++ b) ++ w) p l
        ∙ append_assoc (take MAX_UNITS heads ++ b) w (p ++ l)

    before_pilots : length ((take MAX_UNITS heads ++ b) ++ w) ≡ PILOTS_AT
    before_pilots = sym (ap length front₃) ∙ length-take-le PILOTS_AT d₃ (omega (arith, len₃, long))

    before_linked : length (((take MAX_UNITS heads ++ b) ++ w) ++ p) ≡ LINKED_AT
    before_linked = sym (ap length front₄) ∙ length-take-le LINKED_AT d₄ (omega (arith, len₄, long))

    backers_part : backers_of d₅ ≡ b
    backers_part = second_part (take MAX_UNITS heads) b (w ++ (p ++ l)) front k.long is

    pilots_part : pilots_of d₅ ≡ p
    pilots_part = second_part ((take MAX_UNITS heads ++ b) ++ w) p l before_pilots lp whole

    linked_part : linked_of d₅ ≡ l
    linked_part =
        second_part (((take MAX_UNITS heads ++ b) ++ w) ++ p) l [] before_linked ll
        (whole ∙ sym (append-nil ((((take MAX_UNITS heads ++ b) ++ w) ++ p) ++ l)))

-- ---- what is searched through the desk

-- tests that are alike below n
all_in_alike : (n w : ℕ) (p q : ℕ → Bool) → ((i : ℕ) → i < n → p i ≡ q i) → all_in n w p ≡ all_in n w q
all_in_alike n w p q f =
    bool_ext (all_in n w p) (all_in n w q) (λ e. all_in_intro n w q (λ i l h. sym (f i l) ∙ all_in_at n w p e i l h))
    (λ e. all_in_intro n w p (λ i l h. f i l ∙ all_in_at n w q e i l h))

module _ {rules heads pilots desk : List ℕ} {unit : Job} (l : LaidOut rules heads pilots unit desk) where
  pub prepared : {table counts : List ℕ} → PilotsWithin pilots unit.inputs → Searchable rules table counts heads unit
      → Prepared rules table counts desk unit
  prepared w s = record {
    searchable = record {
      rules_lent = s.rules_lent;
      joinable = record {
        table_long = s.joinable.table_long;
        counts_long = s.joinable.counts_long;
        heads_long = omega (arith, l.long);
        few = s.joinable.few;
        small = s.joinable.small;
      };
      near = s.near;
    };
    backed = l.backed;
    linked = l.linked;
    within = subst (λ (x : List ℕ). PilotsWithin x unit.inputs) (sym l.same_pilots) w;
    long = l.long;
  }

  -- the same positions join the lists, since the same head atoms are looked at
  joins_desk : (table counts : List ℕ) (predecessors M : ℕ) → joins table counts heads predecessors M ≡ joins table counts desk predecessors M
  unfolding joins
  joins_desk table counts predecessors M =
      all_in_alike MAX_UNITS predecessors _ _
      (λ v m. ap (λ (h : ℕ). is_listed table (LIST_WORDS * v) (get_or counts v 0) (M ∩ h)) (sym (l.same_heads v m)))

  -- so the same belong
  pub belongs_desk : (table counts : List ℕ) (M : ℕ) → Belongs rules table counts heads unit M → Belongs rules table counts desk unit M
  belongs_desk table counts M b = record {
    word = b.word;
    joined = sym (joins_desk table counts unit.predecessors M) ∙ b.joined;
    answers = b.answers;
  }

  pub desk_belongs : (table counts : List ℕ) (M : ℕ) → Belongs rules table counts desk unit M → Belongs rules table counts heads unit M
  desk_belongs table counts M b = record {
    word = b.word;
    joined = joins_desk table counts unit.predecessors M ∙ b.joined;
    answers = b.answers;
  }

-- ---- pilots

-- a pilot stands behind the index
pub pilot_at : (desk : List ℕ) (t : ℕ) → t < MAX_TABLES → get_or desk (PILOTS_AT + t) 0 ≡ get_or (pilots_of desk) t 0
pilot_at desk t l = sym (get_or-take MAX_TABLES (drop PILOTS_AT desk) t 0 l ∙ get_or-drop PILOTS_AT desk t 0)

-- there is one for each table
pub pilots_long : (desk : List ℕ) → length desk ≡ DESK_WORDS → MAX_TABLES ≤ length (pilots_of desk)
pilots_long desk l =
    let e : length (pilots_of desk) ≡ MAX_TABLES = length-take-le MAX_TABLES (drop PILOTS_AT desk) (omega (arith, length-drop PILOTS_AT desk, l)) in
    omega arith
