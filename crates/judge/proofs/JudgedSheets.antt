-- A sheet judged: the answer where the loop returns, what the definition says of a sheet laid down from its positions, and that 256 is no place.
use Rattle.judge.proofs.Prelude.{◌≡◌, refl, ap, ap₂, sym, ◌∙◌, subst, Bool, true, false, not, List, [], ◌∷◌, ◌++◌, flat_map, inl, inr, ℕ, zero, suc}
use Rattle.judge.proofs.Prelude.{◌+◌, ◌*◌, ◌/◌, ◌%◌, ◌≤◌, ◌<◌, arith, dec_lt, ℕ_discrete, eqb, length, get_or, take, drop, length-drop, take-append-drop}
use Rattle.judge.proofs.Prelude.{drop-append-add, lt-ltb, le-ltb, eqb-true, eqb-false, not-true, not-false, below, Decides, not_both, lent, answer_set}
use Rattle.judge.proofs.Prelude.{Fitting, Plan, Fault, Outcome, Accepted, All, IsByte, word_bytes, reading, accepted, refused, ReadPlan, Settles}
use Rattle.judge.proofs.Prelude.{settled, MAX_POSITIONS, bad_bytes, positions_in, position_at, unsettled_at, places_judged, sheet_in, sheet_judged, NoSheet}
use Rattle.judge.proofs.Prelude.{Laid, PlacesRight, all_settled, first_not, SheetRight, SheetJudged, asked_refused, asked_accepted, refused_answered}
use Rattle.judge.proofs.Prelude.{accepted_answered, read_fits}
use Rattle.atoms.specs.Collected.{lowest}
use Rattle.atoms.proofs.Collected.{lowest_is, lowest_none, lowest_here, lowest_least}
use Rattle.reading.specs.Words.{WORD_BYTES, WORD_VALUES, spelled, word_at}
use Rattle.reading.proofs.Longest.{elements_long}
use Rattle.reading.proofs.Numbers.{length_bytes, word_behind, word_bytes_lem, word_fits, all_drop}
use Rattle.std.specs.Prelude.{Option, Some, None, Ok, Err}
use Rattle.judge.specs.JudgedSheets.{SheetAnswer, places_in, unread}
use Rattle.judge.specs.declared.sheet.SheetFault.TheVariants.{BadSheet}
use Rattle.judge.proofs.Settled.{decides_settled}
use Rattle.plan_meaning.specs.Asked.{Answered}

-- ---- what is no sheet

pub bad_over : (n : ℕ) → MAX_POSITIONS < n / WORD_BYTES → bad_bytes n ≡ true
unfolding bad_bytes
bad_over n l = rw (lt-ltb MAX_POSITIONS (n / WORD_BYTES) l, bad_bytes) refl

pub bad_rest : (n : ℕ) → n / WORD_BYTES ≤ MAX_POSITIONS → bad_bytes n ≡ not (eqb (n % WORD_BYTES) 0)
unfolding bad_bytes
bad_rest n l = rw (le-ltb MAX_POSITIONS (n / WORD_BYTES) l, bad_bytes) refl

pub decides_no_sheet : (sheet : List ℕ) → Decides (NoSheet sheet) (bad_bytes (length sheet))
decides_no_sheet sheet = go (dec_lt MAX_POSITIONS (positions_in sheet))
  where
    go : Dec (MAX_POSITIONS < positions_in sheet) → Decides (NoSheet sheet) (bad_bytes (length sheet))
    go (yes l) = record { yes = λ _. inl l; no = λ f. absurd (not_both (bad_over (length sheet) l) f) }
    go (no l) = record { yes = λ t. inr (eqb-false _ _ (not-true _ (sym rest ∙ t))); no = λ f. neither (eqb-true _ _ (not-false _ (sym rest ∙ f))) }
      where
        rest : bad_bytes (length sheet) ≡ not (eqb (length sheet % WORD_BYTES) 0)
        rest = bad_rest (length sheet) (omega arith)

        neither : length sheet % WORD_BYTES ≡ 0 → ¬ NoSheet sheet
        neither e (inl over) = l over
        neither e (inr rest) = rest e

-- ---- the places

module _ (p : Plan) (sheet : List ℕ) where
  -- the first n positions are answer sets
  abbrev pub Passed : ℕ → Type 0
  Passed n = (q : ℕ) → q < n → settled p (position_at sheet q) ≡ true

  -- the test of the code is that of the position at the place
  pub tested_at : {which M : ℕ} {b : Bool} (place : ℕ) → b ≡ answer_set (lent p.rules) which p.once.given.word M → which ≡ below p.rule_count
      → M ≡ position_at sheet place → b ≡ settled p (position_at sheet place)
  tested_at {which} {M} place t w m = t ∙ ap (λ (x : ℕ). answer_set (lent p.rules) x p.once.given.word M) w ∙ ap (settled p) m

  pub passed_more : (n : ℕ) → Passed n → settled p (position_at sheet n) ≡ true → Passed (n + 1)
  passed_more n before here q l = go (dec_lt q n)
    where
      go : Dec (q < n) → settled p (position_at sheet q) ≡ true
      go (yes k) = before q k
      go (no k) = let e : n ≡ q = omega arith in subst (λ (i : ℕ). settled p (position_at sheet i) ≡ true) e here

  places_here : lowest (positions_in sheet) (unsettled_at p sheet) < positions_in sheet
      → places_judged p sheet ≡ Some (lowest (positions_in sheet) (unsettled_at p sheet))
  unfolding places_judged
  places_here l = rw (lt-ltb (lowest (positions_in sheet) (unsettled_at p sheet)) (positions_in sheet) l, places_judged) refl

  places_none : positions_in sheet ≤ lowest (positions_in sheet) (unsettled_at p sheet) → places_judged p sheet ≡ None
  unfolding places_judged
  places_none l = rw (le-ltb (lowest (positions_in sheet) (unsettled_at p sheet)) (positions_in sheet) l, places_judged) refl

  pub places_first : (place : ℕ) → place < positions_in sheet → Passed place → settled p (position_at sheet place) ≡ false
      → places_judged p sheet ≡ Some place
  places_first place l before here =
      let e : lowest (positions_in sheet) (unsettled_at p sheet) ≡ place =
      lowest_is (positions_in sheet) (unsettled_at p sheet) place l (ap not here) (λ q k. ap not (before q k)) in
      places_here (omega arith) ∙ ap Some e

  pub places_all : Passed (positions_in sheet) → places_judged p sheet ≡ None
  places_all each =
      let e : lowest (positions_in sheet) (unsettled_at p sheet) ≡ positions_in sheet =
      lowest_none (positions_in sheet) (unsettled_at p sheet) (λ q k. ap not (each q k)) in
      places_none (omega arith)

-- an answer for the places, with what the tests said: all passed, or the first that did not
data Tested (p : Plan) (sheet : List ℕ) : Option ℕ → Type 0 where
  all_pass : Passed p sheet (positions_in sheet) → Tested p sheet None
  stops_at : (place : ℕ) → place < positions_in sheet → Passed p sheet place → settled p (position_at sheet place) ≡ false
      → Tested p sheet (Some place)

places_tested : (p : Plan) (sheet : List ℕ) → Tested p sheet (places_judged p sheet)
places_tested p sheet = go (dec_lt place (positions_in sheet))
  where
    place : ℕ
    place = lowest (positions_in sheet) (unsettled_at p sheet)

    before : Passed p sheet place
    before q k = not-false (settled p (position_at sheet q)) (lowest_least (positions_in sheet) (unsettled_at p sheet) q k)

    go : Dec (place < positions_in sheet) → Tested p sheet (places_judged p sheet)
    go (yes l) =
        subst (Tested p sheet) (sym (places_here p sheet l))
        (stops_at place l before (not-true (settled p (position_at sheet place)) (lowest_here (positions_in sheet) (unsettled_at p sheet) l)))
    go (no l) = subst (Tested p sheet) (sym (places_none p sheet (omega arith))) (all_pass (λ q k. before q (omega arith)))

-- ---- a sheet laid down from its positions

positions_long : (ps : List ℕ) → length (flat_map word_bytes ps) ≡ WORD_BYTES * length ps
positions_long = elements_long word_bytes WORD_BYTES (length_bytes WORD_BYTES)

behind_first : (M place : ℕ) (s : List ℕ) → position_at (word_bytes M ++ s) (suc place) ≡ position_at s place
unfolding word_at
behind_first M place s =
    let e : WORD_BYTES * suc place ≡ length (word_bytes M) + WORD_BYTES * place = omega (arith, length_bytes WORD_BYTES M) in
    ap (λ (t : List ℕ). spelled (take WORD_BYTES t))
    (ap (λ (n : ℕ). drop n (word_bytes M ++ s)) e ∙ drop-append-add (word_bytes M) s (WORD_BYTES * place))

position_laid : (ps : List ℕ) → All (λ M. M < WORD_VALUES) ps → (place : ℕ) → place < length ps
    → position_at (flat_map word_bytes ps) place ≡ get_or ps place 0
unfolding flat_map
position_laid [] a place l = absurd (omega arith)
position_laid (M ∷ ps) a zero l = word_behind [] 0 M (flat_map word_bytes ps) refl a.0
position_laid (M ∷ ps) a (suc place) l = behind_first M place (flat_map word_bytes ps) ∙ position_laid ps a.1 place (omega arith)

module _ {ps sheet : List ℕ} (laid : Laid ps sheet) where
  long : length sheet ≡ WORD_BYTES * length ps
  long = ap length laid.bytes_are ∙ positions_long ps

  pub laid_count : positions_in sheet ≡ length ps
  laid_count = omega (arith, long)

  pub laid_is_sheet : ¬ NoSheet sheet
  laid_is_sheet (inl over) = omega (arith, long, laid.few)
  laid_is_sheet (inr rest) = rest (omega (arith, long))

  pub laid_at : (place : ℕ) → place < length ps → position_at sheet place ≡ get_or ps place 0
  laid_at place l = ap (λ (s : List ℕ). position_at s place) laid.bytes_are ∙ position_laid ps laid.words place l

  module _ (p : Plan) (fits : Fitting p) where
    settles : (place : ℕ) → place < length ps → settled p (position_at sheet place) ≡ true → Settles p (get_or ps place 0)
    settles place l t = (decides_settled p (get_or ps place 0) fits).yes (ap (settled p) (sym (laid_at place l)) ∙ t)

    -- "all are answer sets, or the place from 0 of the first that isn't"
    pub places_right : PlacesRight p ps (places_in p sheet)
    places_right = go (places_tested p sheet)
      where
        go : {first : Option ℕ} → Tested p sheet first → PlacesRight p ps (Ok first)
        go (all_pass each) = all_settled (record { each = λ place l. settles place l (each place (omega (arith, laid_count))) })
        go (stops_at place l before here) =
            let k : place < length ps = omega (arith, laid_count) in
            first_not
            (record {
              within = k;
              each_before = λ q m. settles q (omega arith) (before q m);
              not_here = (decides_settled p (get_or ps place 0) fits).no (ap (settled p) (sym (laid_at place k)) ∙ here);
            })

-- ---- every sheet of whole positions, at most 256 of them, is laid down from some

unfoldable pub words_in : ℕ → List ℕ → List ℕ
words_in zero s = []
words_in (suc n) s = word_at 0 s ∷ words_in n (drop WORD_BYTES s)

words_long : (n : ℕ) (s : List ℕ) → length (words_in n s) ≡ n
unfolding words_in
words_long zero s = refl
words_long (suc n) s = ap suc (words_long n (drop WORD_BYTES s))

words_fit : (n : ℕ) (s : List ℕ) → All IsByte s → WORD_BYTES * n ≤ length s → All (λ M. M < WORD_VALUES) (words_in n s)
unfolding words_in
words_fit zero s small l = tt
words_fit (suc n) s small l = (
  word_fits s 0 (omega arith) small,
  words_fit n (drop WORD_BYTES s) (all_drop IsByte WORD_BYTES s small) (omega (arith, length-drop WORD_BYTES s)),
)

words_laid : (n : ℕ) (s : List ℕ) → All IsByte s → length s ≡ WORD_BYTES * n → s ≡ flat_map word_bytes (words_in n s)
unfolding words_in flat_map
words_laid zero [] small l = refl
words_laid zero (b ∷ s) small l = absurd (omega arith)
words_laid (suc n) s small l =
    let rest = words_laid n (drop WORD_BYTES s) (all_drop IsByte WORD_BYTES s small) (omega (arith, length-drop WORD_BYTES s)) in
    sym (take-append-drop WORD_BYTES s) ∙ ap₂ (λ (a b : List ℕ). a ++ b) (sym (word_bytes_lem s 0 (omega arith) small)) rest

pub sheet_laid : (sheet : List ℕ) → All IsByte sheet → ¬ NoSheet sheet → (ps : List ℕ) × Laid ps sheet
sheet_laid sheet small n = go (dec_lt MAX_POSITIONS (positions_in sheet)) (ℕ_discrete (length sheet % WORD_BYTES) 0)
  where
    go : Dec (MAX_POSITIONS < positions_in sheet) → Dec (length sheet % WORD_BYTES ≡ 0) → (ps : List ℕ) × Laid ps sheet
    go (yes over) d = absurd (n (inl over))
    go (no few) (no rest) = absurd (n (inr rest))
    go (no few) (yes whole) =
        let l : length sheet ≡ WORD_BYTES * positions_in sheet = omega arith in (
          words_in (positions_in sheet) sheet,
          record {
            few = omega (arith, words_long (positions_in sheet) sheet);
            words = words_fit (positions_in sheet) sheet small (omega arith);
            bytes_are = words_laid (positions_in sheet) sheet small l;
          },
        )

-- ---- the answer

module _ {A : Type 0} (bad : A) (answer : Plan → List ℕ → A) (sheet : List ℕ) (p : Plan) where
  in_bad : bad_bytes (length sheet) ≡ true → sheet_in bad answer sheet p ≡ bad
  unfolding sheet_in
  in_bad b = rw (b, sheet_in)

  in_sheet : bad_bytes (length sheet) ≡ false → sheet_in bad answer sheet p ≡ answer p sheet
  unfolding sheet_in
  in_sheet b = rw (b, sheet_in)

-- an answer with a place has one below 256
abbrev PlaceBelow : SheetAnswer → Type 0
PlaceBelow (Ok None) = Unit {0}
PlaceBelow (Ok (Some place)) = place < MAX_POSITIONS
PlaceBelow (Err e) = Unit {0}

places_below : (p : Plan) (sheet : List ℕ) → positions_in sheet ≤ MAX_POSITIONS → PlaceBelow (places_in p sheet)
places_below p sheet few = go (places_tested p sheet)
  where
    go : {first : Option ℕ} → Tested p sheet first → PlaceBelow (Ok first)
    go (all_pass each) = tt
    go (stops_at place l before here) = omega arith

-- places are below the number of positions, and these are at most 256
answer_below : (bytes sheet : List ℕ) → PlaceBelow (sheet_judged bytes sheet)
answer_below bytes sheet = go (reading bytes).outcome refl (bad_bytes (length sheet)) refl
  where
    p : Plan
    p = (reading bytes).plan

    in_plan : Plan → SheetAnswer
    in_plan = sheet_in (Err BadSheet) places_in sheet

    few : bad_bytes (length sheet) ≡ false → positions_in sheet ≤ MAX_POSITIONS
    few b = let n : ¬ (MAX_POSITIONS < positions_in sheet) = λ l. (decides_no_sheet sheet).no b (inl l) in omega arith

    go : (o : Outcome) → (reading bytes).outcome ≡ o → (b : Bool) → bad_bytes (length sheet) ≡ b → PlaceBelow (sheet_judged bytes sheet)
    go (Err f) e b t = subst PlaceBelow (sym (asked_refused unread in_plan bytes f e)) tt
    go (Ok u) e true t = subst PlaceBelow (sym (asked_accepted unread in_plan bytes e ∙ in_bad (Err BadSheet) places_in sheet p t)) tt
    go (Ok u) e false t =
        subst PlaceBelow (sym (asked_accepted unread in_plan bytes e ∙ in_sheet (Err BadSheet) places_in sheet p t)) (places_below p sheet (few t))

-- ---- the answers of the code, from what reading and the test of the sheet gave

module _ (bytes sheet : List ℕ) {r : ReadPlan} {t : Bool} (read : r ≡ reading bytes) (o : r.outcome ≡ Accepted) (bad-is : t ≡ bad_bytes (length sheet))
    {A : Type 0} {refuse : Fault → A} {bad : A} (answer : Plan → List ℕ → A) {PlacesRight : Plan → List ℕ → A → Type 0} where
  pub bad_answered : t ≡ true → Answered refuse (sheet_in bad answer sheet) (SheetRight bad PlacesRight sheet) bytes bad
  bad_answered b =
      let is-bad : bad_bytes (length sheet) ≡ true = sym bad-is ∙ b in
      accepted_answered bytes read o (sym (in_bad bad answer sheet r.plan is-bad))
      (record { no_sheet = λ _. refl; of_sheet = λ ps l. absurd (laid_is_sheet l ((decides_no_sheet sheet).yes is-bad)) })

  pub sheet_answered : {a : A} → t ≡ false → a ≡ answer r.plan sheet → ((ps : List ℕ) → Laid ps sheet → PlacesRight r.plan ps a)
      → Answered refuse (sheet_in bad answer sheet) (SheetRight bad PlacesRight sheet) bytes a
  sheet_answered b is right =
      let is-sheet : bad_bytes (length sheet) ≡ false = sym bad-is ∙ b in
      accepted_answered bytes read o (is ∙ sym (in_sheet bad answer sheet r.plan is-sheet))
      (record { no_sheet = λ n. absurd ((decides_no_sheet sheet).no is-sheet n); of_sheet = right })

module _ (bytes sheet : List ℕ) (small : All IsByte sheet) where
  whole_answer : {answer : SheetAnswer}
      → Answered unread (sheet_in (Err BadSheet) places_in sheet) (SheetRight (Err BadSheet) PlacesRight sheet) bytes answer
      → SheetJudged bytes sheet answer
  whole_answer a = record {
    answered = a;
    laid = sheet_laid sheet small;
    place_below = λ place e. subst PlaceBelow (sym a.is ∙ e) (answer_below bytes sheet);
  }

  pub refused_sheet : {f : Fault} → refused f ≡ reading bytes → SheetJudged bytes sheet (unread f)
  refused_sheet read = whole_answer (refused_answered bytes read refl refl)

  module _ {p : Plan} {t : Bool} (read : accepted p ≡ reading bytes) (bad-is : t ≡ bad_bytes (length sheet)) where
    pub bad_sheet : t ≡ true → SheetJudged bytes sheet (Err BadSheet)
    bad_sheet b = whole_answer (bad_answered bytes sheet read refl bad-is places_in b)

    pub judged_sheet : {first : Option ℕ} → t ≡ false → first ≡ places_judged p sheet → SheetJudged bytes sheet (Ok first)
    judged_sheet b e =
        let right : (ps : List ℕ) → Laid ps sheet → PlacesRight p ps (places_in p sheet) = λ ps l. places_right l p (read_fits bytes read) in
        whole_answer (sheet_answered bytes sheet read refl bad-is places_in b (ap Ok e) (λ ps l. rw e (right ps l)))
