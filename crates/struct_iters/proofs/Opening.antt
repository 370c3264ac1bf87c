-- Columns that are opened beneath parts.
use Rattle.std.proofs.Common.{◌≡◌, ◌⊎◌, inl, inr, ℕ, suc, List, [], ◌∷◌, map, Option, Some, None, Result, Err, refl, ap, subst, ◌∙◌, string_bytes}
use Rattle.columns_base.specs.declared.error.Error.{Error}
use Rattle.columns_base.specs.declared.error.Error.TheVariants.{Memory, InvalidArgumentError, NotYetImplemented}
use Rattle.columns_base.specs.declared.error.A.TheVariants.{A1}
use Rattle.columns_base.specs.declared.error.N.TheVariants.{N5}
use Rattle.columns_core.specs.Tree.{TypeTree, FieldTree, field}
use Rattle.columns_core.specs.View.{type_view, field_view, type_step, field_step}
use Rattle.columns_core.specs.declared.types.Field.{Field, fold_out-Field}
use Rattle.pq_headline.specs.Columns.{ArrowColumn}
use Rattle.pq_pages.specs.Outcomes.{Outcome}
use Rattle.pq_tree.specs.Physical.{Physical}
use Rattle.read_columns.specs.Columns.{ColumnReading}
use Rattle.read_nested.specs.Above.{Above}
use Rattle.read_state.specs.declared.init.InitNested.{InitNested}
use Rattle.assembly.specs.Lanes.{Lane, AreReading}
use Rattle.assembly.specs.Opened.{SomeIsNotRead}
use Rattle.assembly.specs.Paths.{Path, field_fault}
use Rattle.assembly.proofs.Openings.{fault_is, no_empty}
use Rattle.struct_iters.specs.Items.{ItemsReading, IsGivingItems}
use Rattle.struct_iters.specs.Opens.{OpenBeneath, begun}
use Rattle.struct_iters.specs.Progress.{AreAt}

begun-columns : (xs : List Lane) → map (λ x. x.opening.column) (map begun xs) ≡ map (λ x. x.opening.column) xs
begun-columns [] = refl
begun-columns (x ∷ xs) = ap (λ (cs : List ArrowColumn). x.opening.column ∷ cs) (begun-columns xs)

begun-types : (xs : List Lane) → map (λ x. x.type) (map begun xs) ≡ map (λ x. x.type) xs
begun-types [] = refl
begun-types (x ∷ xs) = ap (λ (ts : List TypeTree). x.type ∷ ts) (begun-types xs)

begun-at : (i : ℕ) (xs : List Lane) (rs : List ColumnReading) → AreReading i xs rs [] → AreAt (map begun xs) (map Some rs)
begun-at i [] [] h = tt
begun-at i [] (r ∷ rs) h = absurd h
begun-at i (x ∷ xs) [] h = absurd h
begun-at i (x ∷ xs) (r ∷ rs) h = (h.0, begun-at (suc i) xs rs h.1)

seen : (f : Field) → field_view f ≡ field (string_bytes f.name) (type_view f.data_type) f.is_nullable f.metadata
seen f = fold_out-Field TypeTree FieldTree type_step field_step f

pub opened : (above : List Above) (f : Field) (xs : List Lane) (init : List InitNested) (outcomes : List (List Outcome)) (physicals : List Physical) (rows : ℕ) (chunk_size : Option ℕ) (rs : List ColumnReading) (it : ItemsReading) →
    OpenBeneath above (field_view f) xs init outcomes physicals rows chunk_size → field_fault (field_view f) ≡ None → AreReading 0 xs rs [] → it.readers ≡ map Some rs → it.type ≡ type_view f.data_type → IsGivingItems above f.is_nullable (type_view f.data_type) (map begun xs) it
opened above f xs init outcomes physicals rows chunk_size rs it h fault reading readers typed =
    let O : FieldTree → Type 0 = λ g. OpenBeneath above g xs init outcomes physicals rows chunk_size in
    let F : FieldTree → Type 0 = λ g. field_fault g ≡ None in
    let open_ = subst O (seen f) h in
    let full = no_empty (field (string_bytes f.name) (type_view f.data_type) f.is_nullable f.metadata) (subst F (seen f) fault) in
    record {
      are = record { columns = begun-columns xs ∙ open_.columns; types = begun-types xs ∙ open_.types; full = full; flat = open_.flat };
      typed = typed;
      readers = rw readers (begun-at 0 xs rs reading);
    }

-- ---- no other reason is A1

not-read : (paths : List Path) (ps : List Physical) (e : Error) → SomeIsNotRead paths ps e → e ≡ NotYetImplemented N5
not-read [] ps e h = absurd h
not-read (p ∷ paths) [] e h = absurd h
not-read (p ∷ paths) (q ∷ ps) e (inl h) = h.0
not-read (p ∷ paths) (q ∷ ps) e (inr h) = not-read paths ps e h

pub same-error : {T : Type 0} (e d : Error) → ◌≡◌ {A = Result T Error} (Err e) (Err d) → e ≡ d
same-error e d h = cc

pub no-fault-of-size : (f : FieldTree) (e : Error) → (e ≡ Memory) ⊎ (field_fault f ≡ Some e) → e ≡ InvalidArgumentError A1 → ⊥
no-fault-of-size f e (inl m) a = absurd (cc (m, a))
no-fault-of-size f e (inr h) a = elim (fault_is f e h) [ inl x ↦ absurd (cc (x, a)) | inr x ↦ absurd (cc (x, a)) ]

pub unread-of-no-size : (paths : List Path) (ps : List Physical) (e : Error) → (e ≡ Memory) ⊎ SomeIsNotRead paths ps e → e ≡ InvalidArgumentError A1 → ⊥
unread-of-no-size paths ps e (inl m) a = absurd (cc (m, a))
unread-of-no-size paths ps e (inr h) a = let x = not-read paths ps e h in absurd (cc (x, a))
