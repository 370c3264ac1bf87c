-- Each stage's refusal is one of the input.
use Rattle.std.proofs.Common.{◌≡◌, ◌⊎◌, inl, inr, ◌<◌, ℕ, List, [], ◌∷◌, Option, Result, Ok, Err, sym, subst}
use Rattle.std.specs.Prelude.{IfErr}
use Rattle.columns_base.specs.declared.error.Error.{Error}
use Rattle.columns_base.specs.declared.error.Error.TheVariants.{InputLimit, OutOfSpec, NotYetImplemented, InvalidArgumentError, Overflow, Memory}
use Rattle.columns_base.specs.declared.error.Limit.TheVariants.{Pairs}
use Rattle.columns_base.specs.declared.error.S.TheVariants as S
use Rattle.columns_base.specs.declared.error.N.TheVariants as N
use Rattle.columns_base.specs.declared.error.A.TheVariants as A
use Rattle.columns_base.specs.declared.error.V.TheVariants as V
use Rattle.columns_core.specs.View.{SchemaTree, schema_view}
use Rattle.pq_metadata.specs.Frame.{HasFrame}
use Rattle.pq_metadata.specs.Footer.{Footer, GroupMeta}
use Rattle.pq_metadata.specs.Metadata.{RefusesFile}
use Rattle.pq_tree.specs.Tree.{Leaf, columns_of}
use Rattle.columns_core.specs.Tree.{FieldTrees}
use Rattle.pq_tree.specs.TreeViews.{metadata_view}
use Rattle.pq_files.specs.Reasons.{AnyOf}
use Rattle.pq_headline.specs.Openings.{Opening}
use Rattle.pq_headline.specs.FieldReasons.{Refuses as RefusesField, IsOfRows}
use Rattle.pq_headline.specs.Rewrites.{Asked, Codec}
use Rattle.pq_headline.specs.Stages.{Refuses, Passes3, Passes4, Passes5, Passes6, RefusesSchema6, SomeFieldIs, pairs_claimed}
use Rattle.columns_slots.specs.Tree.{ArrayTrees}
use Rattle.pq_headline.specs.Laws.{OutputsAreRefused}
use Rattle.pq_headline.specs.Written.{HasRead}
use Rattle.rewrite_whole.specs.Answer.{IsOfInput}
use Rattle.rewrite_whole.specs.Asks.{Causes, Says}
use Rattle.rewrite_whole.specs.Ready.{DidAll, FinishRefuses, asked_of, fields_in, tree_in}
use Rattle.pq_headline.specs.Rows.{Seen}
use Rattle.rewrite_whole.specs.declared.job.Job.{Job}
use Rattle.rewrite_whole.specs.declared.output.Output.{Output}
use Rattle.rewrite_whole.specs.Places.{RefusesStage5}

pub from_file : (codec : Codec) (asked : Asked) (bytes : List ℕ) (e : Error) → RefusesFile bytes e → Says codec asked bytes e
from_file codec asked bytes e (inl h) = subst (Says codec asked bytes) (sym h.0) (inr (tt, inl h.1))
from_file codec asked bytes e (inr (inl h)) = subst (Says codec asked bytes) (sym h.0) (inr (tt, inl (h.1, h.2)))
from_file codec asked bytes e (inr (inr h)) = elim h.1 as (λ x. Says codec asked bytes e) [
  | inl m ↦ inl m
  | inr r ↦ elim r as (λ x. Says codec asked bytes e) [
    | inl d ↦ subst (Says codec asked bytes) (sym d.0) (inr (tt, inl (h.0, d.1)))
    | inr q ↦ elim q as (λ x. Says codec asked bytes e) [
      | inl d ↦ subst (Says codec asked bytes) (sym d.0) (inr (tt, inr (h.0, d.1)))
      | inr d ↦ subst (Says codec asked bytes) (sym d.0) (inr (tt, inr (h.0, d.1)))
    ]
  ]
]

pub from_pairs : (codec : Codec) (asked : Asked) (bytes : List ℕ) (place : ℕ) (f : Footer) (e : Error) → Passes3 bytes place f → (e ≡ Memory) ⊎ ((e ≡ InputLimit Pairs) × (asked.pair_limit < pairs_claimed f)) → Says codec asked bytes e
from_pairs codec asked bytes place f e h (inl m) = inl m
from_pairs codec asked bytes place f e h (inr d) = subst (Says codec asked bytes) (sym d.0) (inr (tt, (place, f, h, d.1)))

pub from_place : (codec : Codec) (asked : Asked) (bytes : List ℕ) (e : Error) → HasFrame bytes → (e ≡ OutOfSpec S.S1) × (¬ HasFrame bytes) → Says codec asked bytes e
from_place codec asked bytes e h d = absurd (d.1 h)

pub from_groups : (codec : Codec) (asked : Asked) (bytes : List ℕ) (place : ℕ) (f : Footer) (e : Error) → Passes4 asked bytes place f → RefusesStage5 place f e → Says codec asked bytes e
from_groups codec asked bytes place f e p (inl d) = subst (Says codec asked bytes) (sym d.0) (inr (tt, (place, f, p, d.1)))
from_groups codec asked bytes place f e p (inr (inl d)) = subst (Says codec asked bytes) (sym d.0) (inr (tt, (place, f, p, d.1)))
from_groups codec asked bytes place f e p (inr (inr d)) = subst (Says codec asked bytes) (sym d.0) (inr (tt, (place, f, p, d.1)))

pub from_schema : (codec : Codec) (asked : Asked) (bytes : List ℕ) (place : ℕ) (f : Footer) (e : Error) → Passes5 asked bytes place f → (e ≡ Memory) ⊎ RefusesSchema6 codec asked.rule f e → Says codec asked bytes e
from_schema codec asked bytes place f e p (inl m) = inl m
from_schema codec asked bytes place f (InvalidArgumentError A.A2) p (inr d) = inr (tt, (place, f, p, d))
from_schema codec asked bytes place f (InvalidArgumentError A.A3) p (inr d) = inr (tt, (place, f, p, d))
from_schema codec asked bytes place f (InvalidArgumentError A.A4) p (inr d) = inr (tt, (place, f, p, d))
from_schema codec asked bytes place f (InvalidArgumentError A.A5) p (inr d) = inr (tt, (place, f, p, d))
from_schema codec asked bytes place f (InvalidArgumentError A.A6) p (inr d) = inr (tt, (place, f, p, d))
from_schema codec asked bytes place f (OutOfSpec S.S8) p (inr d) = inr (tt, (place, f, p, d))
from_schema codec asked bytes place f (NotYetImplemented N.N5) p (inr d) = inr (tt, (place, f, p, d))
from_schema codec asked bytes place f (NotYetImplemented N.N6) p (inr d) = inr (tt, (place, f, p, d))
from_schema codec asked bytes place f (NotYetImplemented N.N7) p (inr d) = inr (tt, inr (place, f, p, d))
from_schema codec asked bytes place f e p (inr d) = absurd d

-- ---- pages

-- the errors of the seventh stage
abbrev IsOfPages : Error → Type 0
IsOfPages e =
    (e ≡ OutOfSpec S.S3) ⊎ (e ≡ NotYetImplemented N.N4) ⊎ (e ≡ NotYetImplemented N.N8) ⊎ (e ≡ Overflow V.V1) ⊎ (e ≡ Overflow V.V2) ⊎ IsOfRows e

one_field : (o : Opening) (e : Error) → RefusesField o e → (e ≡ Memory) ⊎ IsOfPages e
one_field o e (inl m) = inl m
one_field o e (inr (inl h)) = elim h.0 as (λ x. (e ≡ Memory) ⊎ IsOfPages e) [ inl s ↦ inr (inl s) | inr n ↦ inr (inr (inl n)) ]
one_field o e (inr (inr (inl h))) = inr (inl h.0)
one_field o e (inr (inr (inr (inl h)))) = inr (inr (inl h.0))
one_field o e (inr (inr (inr (inr (inl h))))) = inr (inr (inr (inl h.0)))
one_field o e (inr (inr (inr (inr (inr (inl h)))))) = elim h as (λ x. (e ≡ Memory) ⊎ IsOfPages e) [ inl v ↦ inr (inr (inr (inr (inl v.0)))) | inr v ↦ inr (inr (inr (inr (inr (inl v.0))))) ]
one_field o e (inr (inr (inr (inr (inr (inr h)))))) = inr (inr (inr (inr (inr (inr h.0)))))

any_field : (os : List Opening) (e : Error) → AnyOf (λ o. RefusesField o e) os → (e ≡ Memory) ⊎ IsOfPages e
any_field [] e h = absurd h
any_field (o ∷ os) e (inl h) = one_field o e h
any_field (o ∷ os) e (inr h) = any_field os e h

any_group : (bytes : List ℕ) (place : ℕ) (asked : Asked) (fs : FieldTrees) (ls : List Leaf) (e : Error) (ms : List GroupMeta) → AnyOf (SomeFieldIs bytes place asked fs ls e) ms → (e ≡ Memory) ⊎ IsOfPages e
any_group bytes place asked fs ls e [] h = absurd h
any_group bytes place asked fs ls e (m ∷ ms) (inl h) = any_field h.2 e h.4
any_group bytes place asked fs ls e (m ∷ ms) (inr h) = any_group bytes place asked fs ls e ms h

at : (codec : Codec) (asked : Asked) (bytes : List ℕ) (place : ℕ) (f : Footer) (s : SchemaTree) (e x : Error) → e ≡ x → (AnyOf (SomeFieldIs bytes place asked s.fields (columns_of f.schema) x) f.groups → Says codec asked bytes x) → AnyOf (SomeFieldIs bytes place asked s.fields (columns_of f.schema) e) f.groups → Says codec asked bytes e
at codec asked bytes place f s e x eq g h = subst (Says codec asked bytes) (sym eq) (g (subst (λ y. AnyOf (SomeFieldIs bytes place asked s.fields (columns_of f.schema) y) f.groups) eq h))

pub from_pages : (codec : Codec) (asked : Asked) (bytes : List ℕ) (place : ℕ) (f : Footer) (s : SchemaTree) (e : Error) → Passes6 codec asked bytes place f s → (e ≡ Memory) ⊎ AnyOf (SomeFieldIs bytes place asked s.fields (columns_of f.schema) e) f.groups → Says codec asked bytes e
from_pages codec asked bytes place f s e p (inl m) = inl m
from_pages codec asked bytes place f s e p (inr h) = by e (any_group bytes place asked s.fields (columns_of f.schema) e f.groups h) h
  where
    by : (e : Error) → (e ≡ Memory) ⊎ IsOfPages e → AnyOf (SomeFieldIs bytes place asked s.fields (columns_of f.schema) e) f.groups → Says codec asked bytes e
    by e (inl m) h = inl m
    by e (inr (inl q)) h = at codec asked bytes place f s e _ q (λ k. inr (tt, (place, f, s, p, k))) h
    by e (inr (inr (inl q))) h = at codec asked bytes place f s e _ q (λ k. inr (tt, (place, f, s, p, k))) h
    by e (inr (inr (inr (inl q)))) h = at codec asked bytes place f s e _ q (λ k. inr (tt, (place, f, s, p, k))) h
    by e (inr (inr (inr (inr (inl q))))) h = at codec asked bytes place f s e _ q (λ k. inr (tt, (place, f, s, p, k))) h
    by e (inr (inr (inr (inr (inr (inl q)))))) h = at codec asked bytes place f s e _ q (λ k. inr (tt, (place, f, s, p, k))) h
    by e (inr (inr (inr (inr (inr (inr (inl q))))))) h = at codec asked bytes place f s e _ q (λ k. inr (tt, (place, f, s, p, k))) h
    by e (inr (inr (inr (inr (inr (inr (inr (inl q)))))))) h = at codec asked bytes place f s e _ q (λ k. inr (tt, (place, f, s, p, k))) h
    by e (inr (inr (inr (inr (inr (inr (inr (inr (inl q))))))))) h = at codec asked bytes place f s e _ q (λ k. inr (tt, (place, f, s, p, k))) h
    by e (inr (inr (inr (inr (inr (inr (inr (inr (inr (inl q)))))))))) h = at codec asked bytes place f s e _ q (λ k. inr (tt, (place, f, s, p, k))) h
    by e (inr (inr (inr (inr (inr (inr (inr (inr (inr (inr (inl q))))))))))) h = at codec asked bytes place f s e _ q (λ k. inr (tt, (place, f, s, p, k))) h
    by e (inr (inr (inr (inr (inr (inr (inr (inr (inr (inr (inr q))))))))))) h = at codec asked bytes place f s e _ q (λ k. inr (tt, (place, f, s, p, k))) h

-- ---- the output

pub from_output :
    (codec : Codec) (job : Job) (chunks : List ArrayTrees) (e : Error) → OutputsAreRefused
    → Passes6 codec (asked_of job) job.input.now job.place (metadata_view job.metadata.now) (schema_view job.plan.now.schema)
    → HasRead job.options.now.chunk_size (fields_in job) (tree_in job) job.input.now job.place (metadata_view job.metadata.now).groups chunks
    → FinishRefuses codec job chunks e → Says codec (asked_of job) job.input.now e
from_output codec job chunks e law p h (inl r) =
    let cause : Refuses codec (asked_of job) job.input.now e = law.chunk codec (asked_of job) job.input.now job.place (metadata_view job.metadata.now) (schema_view job.plan.now.schema) chunks e p h r in
    elim r.refused as (λ x. Says codec (asked_of job) job.input.now e) [
      | inl a ↦ inr (subst IsOfInput (sym a.0) tt, cause)
      | inr v ↦ inr (subst IsOfInput (sym v.0) tt, cause)
    ]
from_output codec job chunks e law p h (inr (outs, w, (inl m))) = inl m
from_output codec job chunks e law p h (inr (outs, w, (inr v))) =
    subst (Says codec (asked_of job) job.input.now) (sym v.0) (inr (tt, law.footer codec (asked_of job) job.input.now job.place (metadata_view job.metadata.now) (schema_view job.plan.now.schema) chunks outs p h w v.1))

pub from_finish :
    (codec : Codec) (job : Job) (before now : Option (List (List Seen))) (output : Output) (e : Error) → OutputsAreRefused → (d : DidAll job (metadata_view job.metadata.now).groups before now output)
    → Passes6 codec (asked_of job) job.input.now job.place (metadata_view job.metadata.now) (schema_view job.plan.now.schema) → FinishRefuses codec job d.chunks e → Says codec (asked_of job) job.input.now e
from_finish codec job before now output e law d p r = from_output codec job d.chunks e law p d.read r

pub if_err : {A : Type 0} (r : Result A Error) (P Q : Error → Type 0) → ((e : Error) → P e → Q e) → IfErr r P → IfErr r Q
if_err (Ok x) P Q f h = tt
if_err (Err e) P Q f h = f e h

pub by_cause : (codec : Codec) (asked : Asked) (bytes : List ℕ) (e : Error) → Says codec asked bytes e → (e ≡ Memory) ⊎ (IsOfInput e × Causes codec asked bytes e)
unfolding Causes
by_cause codec asked bytes e h = h
