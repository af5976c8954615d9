-- What a program keeps of what a list of edits names, so that the next edit can be judged.
use Rattle.std.specs.Prelude.{◌≡◌, ◌<◌, ◌==◌, ◌&&◌, ℕ, Bool, true, false, List, Option, Some, None, is_some}
use Rattle.std.specs.BTreeMap.{get}
use Rattle.std.specs.BTreeSet.{contains}
use Rattle.std.specs.Ordering.{nat_cmp}
use Rattle.std.specs.List.{list_any}
use Rattle.st_base.specs.Bytes.{bytes_cmp, same}
use Rattle.manifest_edits.specs.Edits.{Edit, Named, edited, has_id, has_log, has_table_in, is_right}
use Rattle.named_index.specs.declared.index.NamedIndex.{NamedIndex}

-- A family's id, and which of the families that had this id one after the other it is.
abbrev pub Owner : Type 0
Owner = ℕ × ℕ

-- whether the family with this id that is there now is the one of this number
abbrev pub is_current : Option ℕ → ℕ → Bool
is_current None number = false
is_current (Some current) number = current == number

-- whether what has this owner is there, by the numbers of the families that are there
abbrev pub is_owned : (ℕ → Option ℕ) → Option Owner → Bool
is_owned ids None = false
is_owned ids (Some owner) = is_current (ids owner.0) owner.1

-- whether the family of this id has it
abbrev pub belongs_to : ℕ → (ℕ → Option ℕ) → Option Owner → Bool
belongs_to id ids None = false
belongs_to id ids (Some owner) = (owner.0 == id) && is_current (ids id) owner.1

-- whether a family has this id and this name
abbrev pub has_name_in : Named → ℕ → List ℕ → Bool
has_name_in named id name = list_any (λ family. (family.1.id == id) && same family.0 name) named.families

-- every owner is older than this number
abbrev pub AreOlder : {K : Type 0} → ℕ → (K → Option Owner) → Type 0
AreOlder {K} number owners = (key : K) (owner : Owner) → owners key ≡ Some owner → owner.1 < number

-- Which ids, names, tables and logs there are: a name and a table by their owners, also where the family is dropped since.
-- The next family gets this number.
pub record KnowsNamed (ids : ℕ → Option ℕ) (names : List ℕ → Option Owner) (tables : ℕ → Option Owner) (logs : ℕ → Bool)
    (next : ℕ) (named : Named) : Type 0 where
  pub has_ids : (id : ℕ) → has_id id named.families ≡ is_some (ids id)
  pub has_names : (id : ℕ) (name : List ℕ) → has_name_in named id name ≡ belongs_to id ids (names name)
  pub has_tables : (id file : ℕ) → has_table_in named id file ≡ belongs_to id ids (tables file)
  pub has_logs : (file : ℕ) → has_log named file ≡ logs file
  pub old_ids : (id number : ℕ) → ids id ≡ Some number → number < next
  pub old_names : AreOlder next names
  pub old_tables : AreOlder next tables

-- whether the edit is right after those that name this; then these are known with it
abbrev pub IsJudgedBy : (ℕ → Option ℕ) → (List ℕ → Option Owner) → (ℕ → Option Owner) → (ℕ → Bool) → ℕ → Named → Edit → Bool → Type 0
IsJudgedBy ids names tables logs next named edit true = (is_right named edit ≡ true) × KnowsNamed ids names tables logs next (edited named edit)
IsJudgedBy ids names tables logs next named edit false = is_right named edit ≡ false

-- the same of an index
abbrev pub Knows : NamedIndex → Named → Type 0
Knows index named =
    KnowsNamed (get nat_cmp index.ids) (get bytes_cmp index.names) (get nat_cmp index.tables) (contains nat_cmp index.logs) index.next named

abbrev pub IsJudged : NamedIndex → Named → Edit → Bool → Type 0
IsJudged index named edit right =
    IsJudgedBy (get nat_cmp index.ids) (get bytes_cmp index.names) (get nat_cmp index.tables) (contains nat_cmp index.logs) index.next named edit right
