-- What the first page of a dictionary's column gives its reader.
use Rattle.std.proofs.Common.{◌≡◌, ℕ, ◌≤◌, Option, Some, None, List, [], sym, ◌∙◌, subst}
use Rattle.std.specs.Prelude.{Ok, Err}
use Rattle.columns_array.specs.Boxed.{boxed}
use Rattle.columns_base.specs.declared.error.Error.{Error}
use Rattle.columns_core.specs.Tree.{TypeTree}
use Rattle.columns_core.specs.declared.types.IntegerType.{IntegerType}
use Rattle.columns_slots.specs.Tree.{ArrayTree}
use Rattle.dictionary_columns.specs.Keys.{key_physical, stored_keys}
use Rattle.pq_files.specs.Plain.{InARow}
use Rattle.pq_headline.specs.FieldReasons.{key_room}
use Rattle.pq_pages.specs.Outcomes.{Outcome, Takes, fails, gives_dictionary, gives_page, page_shown}
use Rattle.read_column.specs.Reading.{Reading}
use Rattle.read_pieces.specs.Columns.{ColumnOpening, IsWhole, RefusesPiece}
use Rattle.read_state.specs.declared.init.InitNested.{InitNested}
use Rattle.read_types.specs.Reads.{stored_of}
use Rattle.dictionary_leaves.proofs.Opened.{ForeseesKeys, ReadsKeys, cannot-read, ended, ended-early, first-taken, opened, page-refused}
use Rattle.dictionary_leaves.specs.Dictionaries.{AreRead, IsOpenDictionary, IsUnreadDictionary}
use Rattle.dictionary_leaves.specs.Entries.{HasEntries}
use Rattle.dictionary_leaves.specs.EntryTypes.{EntryReading}
use Rattle.dictionary_leaves.specs.First.{IsFirst}
use Rattle.dictionary_leaves.specs.declared.entry_type.ReadEntries.{ReadEntries}

pub are-read : (e : EntryReading) (n : ℕ) (body : List ℕ) (a : ArrayTree) (page : Outcome) → HasEntries (stored_of e.kind) n body e.data_type a → n ≤ key_room e.key → (text : List ℕ) × (page ≡ gives_dictionary n text) × InARow (key_physical e.key) text (stored_keys e.key 0 n) → AreRead e n body a page
are-read e n body a page entries few keys = record { entries = entries; few = few; text = keys.0; shown = keys.1; keys = keys.2 }

pub first-refused : (o : ColumnOpening) (t : TypeTree) (e : EntryReading) (given after : List Outcome) (parts : List InitNested) (size : Option ℕ) (num : ℕ) (lent : Option Outcome) (error : Error) → IsUnreadDictionary o t e given parts size num → Takes given after lent → IsFirst e num lent (Err error) → RefusesPiece o error
first-refused o t e given after parts size num None error u takes is = subst (λ (x : Error). RefusesPiece o x) (sym is.0) (ended-early o t e given after parts size num u takes is.1)
first-refused o t e given after parts size num (Some (gives_page p levels)) error u takes is = page-refused o t e given after parts size num p levels error u takes is.0 is.1
first-refused o t e given after parts size num (Some (gives_dictionary n body)) error u takes is = cannot-read o t e given after parts size num n body error u (first-taken given after (gives_dictionary n body) takes) is
first-refused o t e given after parts size num (Some (fails f)) error u takes is = absurd is

pub first-none : (o : ColumnOpening) (t : TypeTree) (e : EntryReading) (given after : List Outcome) (parts : List InitNested) (size : Option ℕ) (num : ℕ) (lent : Option Outcome) → IsUnreadDictionary o t e given parts size num → Takes given after lent → IsFirst e num lent (Ok None) → IsWhole o []
first-none o t e given after parts size num None u takes is = ended o t e given after parts size num u takes is
first-none o t e given after parts size num (Some (gives_page p levels)) u takes is = absurd is
first-none o t e given after parts size num (Some (gives_dictionary n body)) u takes is = absurd is
first-none o t e given after parts size num (Some (fails f)) u takes is = absurd is

pub first-some : (o : ColumnOpening) (t : TypeTree) (e : EntryReading) (given after : List Outcome) (parts : List InitNested) (size : Option ℕ) (num : ℕ) (lent : Option Outcome) (read : ReadEntries) (key own : IntegerType) (r : Reading) → key ≡ e.key → own ≡ key → IsUnreadDictionary o t e given parts size num → Takes given after lent → IsFirst e num lent (Ok (Some read)) → ReadsKeys key (page_shown read.keys) after parts size num r → ForeseesKeys key (page_shown read.keys) after parts size num r → IsOpenDictionary o t [] own r (boxed read.array)
first-some o t e given after parts size num None read key own r same is u takes first reads foresees = absurd first
first-some o t e given after parts size num (Some (gives_page p levels)) read key own r same is u takes first reads foresees = absurd first
first-some o t e given after parts size num (Some (fails f)) read key own r same is u takes first reads foresees = absurd first
first-some o t e given after parts size num (Some (gives_dictionary n body)) read key own r same is u takes first reads foresees =
    let Reads : IntegerType → Type 0 = λ k. ReadsKeys k (page_shown read.keys) after parts size num r in
    let Foresees : IntegerType → Type 0 = λ k. ForeseesKeys k (page_shown read.keys) after parts size num r in
    let Open : IntegerType → Type 0 = λ k. IsOpenDictionary o t [] k r (boxed read.array) in
    subst Open (sym (is ∙ same)) (opened o t e given after parts size num n body (boxed read.array) (page_shown read.keys) r u (first-taken given after (gives_dictionary n body) takes) first (subst Reads same reads) (subst Foresees same foresees))
