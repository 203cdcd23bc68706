-- What the atoms that show make of the last list (02, S-11): nothing shows, no answer set is there, or atoms show that no answer set has.
use Rattle.demands.proofs.Prelude.{◌≡◌, sym, ap, ◌∙◌, subst, ◌↔◌, List, [], ◌∷◌, Memᴰ-head, Memᴰ-not-nil}
use Rattle.demands.proofs.Prelude.{Memᴰ-eq_of_singleton, ℕ, Has, ◌∩◌, below, above_nil, rising_nil, rising_cons, ext, empty, has_cut, cut_left}
use Rattle.demands.proofs.Prelude.{cut_right, has_none, rising_ext, AnswerSet, lent, Settles, Plan, last_in, ListsComplete, Listing}
use Rattle.answer_sets.proofs.Support.{Supported, supported}

module _ {p : Plan} {r : Listing} {table : List ℕ} (l : ListsComplete p r table) where
  -- where nothing shows and there is an answer set, the list is {0}
  pub none_shown : p.once.shown.word ≡ 0 → (M : ℕ) → Settles p M → last_in r table ≡ 0 ∷ []
  none_shown e M a =
      rising_ext (last_in r table) (0 ∷ []) l.rising (rising_cons above_nil rising_nil)
      (λ X m. let c = (l.members X).0 m in Memᴰ-head (c.is ∙ nothing c.whole))
      (λ X m. (l.members X).1 (record { whole = M; wanted = a; is = Memᴰ-eq_of_singleton m ∙ sym (nothing M) }))
    where
      nothing : (N : ℕ) → N ∩ p.once.shown.word ≡ 0
      nothing N = ap (λ (w : ℕ). N ∩ w) e ∙ empty (N ∩ 0) (λ i h. has_none (cut_right N 0 h))

  -- where there is none, it is empty, whatever shows
  pub none_settled : ((M : ℕ) → ¬ Settles p M) → last_in r table ≡ []
  none_settled n =
      rising_ext (last_in r table) [] l.rising rising_nil (λ X m. let c = (l.members X).0 m in absurd (n c.whole c.wanted))
      (λ X m. absurd (Memᴰ-not-nil m))

-- plans with the same rules and given atoms, whose SHOWs are alike on the atoms that are given or in a head
pub record ShownAlike (p q : Plan) : Type 0 where
  pub rules : p.rules ≡ q.rules
  pub rule_count_is : p.rule_count ≡ q.rule_count
  pub given : p.once.given.word ≡ q.once.given.word
  pub shown : (i : ℕ) → Supported (lent p.rules) (below p.rule_count) p.once.given.word i
      → Has p.once.shown.word i ↔ Has q.once.shown.word i

module _ {p q : Plan} (g : ShownAlike p q) where
  same_cut : (M : ℕ) → Settles p M → M ∩ p.once.shown.word ≡ M ∩ q.once.shown.word
  same_cut M a =
      ext (M ∩ p.once.shown.word) (M ∩ q.once.shown.word)
      (λ i h. let up = cut_left M p.once.shown.word h in has_cut M q.once.shown.word up ((alike i up).0 (cut_right M p.once.shown.word h)))
      (λ i h. let up = cut_left M q.once.shown.word h in has_cut M p.once.shown.word up ((alike i up).1 (cut_right M q.once.shown.word h)))
    where
      alike : (i : ℕ) → Has M i → Has p.once.shown.word i ↔ Has q.once.shown.word i
      alike i h = g.shown i (supported (lent p.rules) (below p.rule_count) p.once.given.word M i a h)

  carried : (M : ℕ) → Settles p M → Settles q M
  carried M a =
      subst (λ (w : ℕ). AnswerSet (lent q.rules) (below q.rule_count) w M) g.given
      (subst (λ (n : ℕ). AnswerSet (lent q.rules) (below n) p.once.given.word M) g.rule_count_is
      (subst (λ (w : List ℕ). AnswerSet (lent w) (below p.rule_count) p.once.given.word M) g.rules a))

  brought_back : (M : ℕ) → Settles q M → Settles p M
  brought_back M a =
      subst (λ (w : List ℕ). AnswerSet (lent w) (below p.rule_count) p.once.given.word M) (sym g.rules)
      (subst (λ (n : ℕ). AnswerSet (lent q.rules) (below n) p.once.given.word M) (sym g.rule_count_is)
      (subst (λ (w : ℕ). AnswerSet (lent q.rules) (below q.rule_count) w M) (sym g.given) a))

  -- a shown atom that is in no head and not given changes nothing
  pub shown_alike : {r s : Listing} {table table' : List ℕ} → ListsComplete p r table → ListsComplete q s table' → last_in r table ≡ last_in s table'
  shown_alike {r} {s} {table} {table'} l k =
      rising_ext (last_in r table) (last_in s table') l.rising k.rising
      (λ X m.
      let c = (l.members X).0 m in
      (k.members X).1
      (record { whole = c.whole; wanted = carried c.whole c.wanted; is = c.is ∙ same_cut c.whole c.wanted }))
      (λ X m.
      let c = (k.members X).0 m in
      let a = brought_back c.whole c.wanted in
      (l.members X).1 (record { whole = c.whole; wanted = a; is = c.is ∙ sym (same_cut c.whole a) }))
