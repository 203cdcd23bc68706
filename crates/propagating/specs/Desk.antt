-- Inner: the desk of a unit: its lists' head atoms, its atoms' backers, the index of woken steps, pilots and linked rules in one area of words.
use Rattle.std.specs.Prelude.{◌≡◌, List, ℕ, ◌+◌, ◌<◌, length, get_or, take, drop}
use Rattle.atoms.specs.Word.{ATOMS}
use Rattle.plan.specs.Limits.{MAX_TABLES, MAX_UNITS}
use Rattle.narrowing.specs.Backers.{Backers}
use Rattle.pilots.specs.Pilots.{FollowAll}
use Rattle.pilots.specs.Linked.{LINKED_WORDS, Linked, PilotsWithin}
use Rattle.propagating.specs.Job.{Belongs, Searchable}
use Rattle.propagating.specs.Agenda.{INDEX_WORDS}
use Rattle.propagating.specs.declared.unit.Job.{Job}

-- where the backers and the index begin, and how many words there are
abbrev pub BACKERS_AT : ℕ
BACKERS_AT = MAX_UNITS

abbrev pub INDEX_AT : ℕ
INDEX_AT = BACKERS_AT + ATOMS

abbrev pub PILOTS_AT : ℕ
PILOTS_AT = INDEX_AT + INDEX_WORDS

abbrev pub LINKED_AT : ℕ
LINKED_AT = PILOTS_AT + MAX_TABLES

abbrev pub DESK_WORDS : ℕ
DESK_WORDS = LINKED_AT + LINKED_WORDS

-- the parts of the backers, of the pilots and of the linked rules
abbrev pub backers_of : List ℕ → List ℕ
backers_of desk = take ATOMS (drop BACKERS_AT desk)

abbrev pub pilots_of : List ℕ → List ℕ
pilots_of desk = take MAX_TABLES (drop PILOTS_AT desk)

abbrev pub linked_of : List ℕ → List ℕ
linked_of desk = take LINKED_WORDS (drop LINKED_AT desk)

-- a desk with the head atoms of these lists, these pilots, the unit's rules linked by them, and the backers of these
pub record LaidOut (rules heads pilots : List ℕ) (unit : Job) (desk : List ℕ) : Type 0 where
  pub long : length desk ≡ DESK_WORDS
  pub same_heads : (v : ℕ) → v < MAX_UNITS → get_or desk v 0 ≡ get_or heads v 0
  pub backed : Backers (linked_of desk) unit.rules (backers_of desk)
  pub same_pilots : pilots_of desk ≡ pilots
  pub linked : Linked rules (pilots_of desk) unit.rules (linked_of desk)

-- all that a search looks at is lent, the head atoms, the pilots, the linked rules and their backers on the desk; pilots are inputs
pub record Prepared (rules table counts desk : List ℕ) (unit : Job) : Type 0 where
  pub searchable : Searchable rules table counts desk unit
  pub backed : Backers (linked_of desk) unit.rules (backers_of desk)
  pub linked : Linked rules (pilots_of desk) unit.rules (linked_of desk)
  pub within : PilotsWithin (pilots_of desk) unit.inputs
  pub long : length desk ≡ DESK_WORDS

-- what a search looks for: a position that belongs to the unit's list, in which each pilot follows its table
pub record Wired (rules table counts desk : List ℕ) (unit : Job) (M : ℕ) : Type 0 where
  pub belongs : Belongs rules table counts desk unit M
  pub follow : FollowAll rules (pilots_of desk) M
