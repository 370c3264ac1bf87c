-- A file of the sample is refused for want of memory alone.
use Rattle.std.proofs.Common.{◌≡◌, ◌≢◌, inl, inr, ℕ, List, refl, arith}
use Rattle.columns_base.specs.declared.error.A.TheVariants.{A7}
use Rattle.columns_base.specs.declared.error.Error.{Error}
use Rattle.columns_base.specs.declared.error.Error.TheVariants.{InputLimit, InvalidArgumentError, Memory, NotYetImplemented, OutOfSpec, Overflow, ReadFault, WriteFault}
use Rattle.columns_base.specs.declared.error.Limit.TheVariants.{Bytes, Pairs}
use Rattle.columns_core.specs.Tree.{no_fields}
use Rattle.pq_headline.specs.Stages.{Refuses}
use Rattle.pq_tree.specs.declared.version.Version.{Version}
use Rattle.sample_rows.specs.Fields.{sample_fields, sample_tree}
use Rattle.sample_sizes.specs.Laws.{IsAskedFor, PassesNoSize, SamplesPassNoSize}
use Rattle.sample_sizes.specs.Rows.{IsSample}
use Rattle.schema_to_tree.specs.Conditions.{AreWritten}
use Rattle.shredding.specs.Slot.{Slots}
use Rattle.unique_rows.specs.Valid.{FilesAreRefusedForSizeAlone, IsForSize, IsSettled}
use Rattle.sample_run.proofs.Refusing.{some_rows}
use Rattle.sample_run.proofs.Told.{told}
use Rattle.sample_run.specs.Files.{IsSampleFile, plain_codec, sample_asked, sample_style}
use Rattle.sample_run.specs.Refused.{IsNotRewritten}

pub are_written : AreWritten sample_fields
are_written = record { structs = refl; decimals = refl; times = refl; types = refl; type_nesting = omega arith; tree_nesting = omega arith }

some_fields : sample_fields ≢ no_fields
some_fields e = absurd (cc e)

settled : IsSettled sample_fields
settled = record { some = some_fields; written = are_written; rows = (refl, (refl, (refl, tt))); served = refl }

asked_for : IsAskedFor plain_codec sample_asked
asked_for = record { bytes_are = refl; told = told; pieces = refl; pairs = omega arith }

-- no size is passed
no_size : (rowss : List (List Slots)) (input : List ℕ) (e : Error) → PassesNoSize plain_codec sample_asked input → Refuses plain_codec sample_asked input e → IsForSize plain_codec sample_asked sample_tree rowss e → ⊥
no_size rowss input ReadFault p r h = h
no_size rowss input WriteFault p r h = h
no_size rowss input (InputLimit Bytes) p r h = h
no_size rowss input (InputLimit Pairs) p r h = p.pairs r
no_size rowss input (OutOfSpec s) p r h = h
no_size rowss input (NotYetImplemented n) p r h = h
no_size rowss input (InvalidArgumentError A7) p r h = p.decimals r
no_size rowss input (InvalidArgumentError a) p r h = h
no_size rowss input (Overflow v) p r h = p.overflow v r
no_size rowss input Memory p r h = h

pub memory_alone :
    (refused : FilesAreRefusedForSizeAlone) (sized : SamplesPassNoSize) (version : Version) (rowss : List (List Slots)) (input : List ℕ) (e : Error)
    → IsSample rowss → IsSampleFile version rowss input → IsNotRewritten input e → e ≡ Memory
memory_alone refused sized version rowss input e is file h =
    let passes : PassesNoSize plain_codec sample_asked input = sized sample_style version plain_codec sample_asked rowss input refl asked_for is file in
    elim h [
      | inl m ↦ m
      | inr (inl long) ↦ absurd (omega (arith, long.1, passes.small))
      | inr (inr cause) ↦ absurd (no_size rowss input e passes cause (refused sample_style version plain_codec sample_asked sample_tree rowss input e settled some_rows told file cause))
    ]
