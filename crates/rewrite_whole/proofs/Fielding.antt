-- One field, opened.
use Rattle.std.proofs.Common.{◌≡◌, ◌≢◌, inl, inr, ℕ, List, [], map, true, Some, refl, sym, subst}
use Rattle.columns_base.specs.declared.error.Error.{Error}
use Rattle.columns_base.specs.declared.error.Error.TheVariants.{Memory}
use Rattle.columns_core.specs.Tree.{FieldTree}
use Rattle.pq_tree.specs.Tree.{Leaf}
use Rattle.pq_tree.specs.Views.{chunk_view, physical_view}
use Rattle.pq_tree.specs.declared.types.ColumnChunkMetaData.{ColumnChunkMetaData}
use Rattle.pq_tree.specs.declared.types.PrimitiveType.{PrimitiveType}
use Rattle.pq_pages.specs.Outcomes.{Outcome}
use Rattle.pq_headline.specs.Opened.{OpensField}
use Rattle.pq_headline.specs.Openings.{Opening, AreAlike}
use Rattle.pq_headline.specs.Served.{is_served_field}
use Rattle.assembly.specs.Giving.{FieldReading, IsGiving, Opens, RefusesOpening}
use Rattle.rewrite_whole.specs.Opening.{IsFieldOf, OpensColumns}
use Rattle.rewrite_whole.specs.declared.job.Job.{Job}
use Rattle.rewrite_whole.proofs.WrittenRead.{written_read}

opening : Job → FieldTree → ℕ → List Leaf → List (List Outcome) → Opening
opening job f rows ls outcomes = record { field = f; leaves = ls; outcomes = outcomes; rows = rows; chunk_size = job.options.now.chunk_size }

opens : (job : Job) (f g : FieldTree) (rows : ℕ) (ls : List Leaf) (chunks : List ColumnChunkMetaData) (outcomes : List (List Outcome)) (types : List PrimitiveType) → g ≡ f → IsFieldOf job.place f chunks ls → OpensColumns job.input.now job.place (map chunk_view chunks) ls outcomes types
    → Opens (opening job g rows ls outcomes) g outcomes (map (λ t. physical_view t.physical_type) types) job.options.now.chunk_size rows
unfolding opening
opens job f g rows ls chunks outcomes types e h k = record {
  field = refl;
  alike = subst (λ q. AreAlike q ls) (sym e) h.alike;
  levels = k.levels;
  failing = k.failing;
  read = written_read g ls (subst (λ q. is_served_field q ≡ true) (sym e) h.served) (subst (λ q. AreAlike q ls) (sym e) h.alike);
  physicals_are = k.physicals;
  outcomes_are = refl;
  chunk_size_is = refl;
  rows_are = refl;
}

pub field_opened : (job : Job) (f g : FieldTree) (rows : ℕ) (ls : List Leaf) (chunks : List ColumnChunkMetaData) (outcomes : List (List Outcome)) (types : List PrimitiveType) (it : FieldReading) → g ≡ f → IsFieldOf job.place f chunks ls → OpensColumns job.input.now job.place (map chunk_view chunks) ls outcomes types
    → ((o : Opening) → Opens o g outcomes (map (λ t. physical_view t.physical_type) types) job.options.now.chunk_size rows → IsGiving o [] it)
    → (o : Opening) × OpensField job.input.now job.place rows job.options.now.chunk_size f ls (map chunk_view chunks) o × IsGiving o [] it
unfolding opening
field_opened job f g rows ls chunks outcomes types it e h k give =
    let o : Opening = opening job g rows ls outcomes in
    (o, record { field = e; leaves_are = refl; alike = h.alike; rows_are = refl; chunk_size_is = refl; read = k.read }, give o (opens job f g rows ls chunks outcomes types e h k))

pub field_refused : (job : Job) (f g : FieldTree) (rows : ℕ) (ls : List Leaf) (chunks : List ColumnChunkMetaData) (outcomes : List (List Outcome)) (types : List PrimitiveType) (x : Error) → job.options.now.chunk_size ≢ Some 0 → g ≡ f → IsFieldOf job.place f chunks ls → OpensColumns job.input.now job.place (map chunk_view chunks) ls outcomes types
    → RefusesOpening g outcomes (map (λ t. physical_view t.physical_type) types) job.options.now.chunk_size rows x → x ≡ Memory
field_refused job f g rows ls chunks outcomes types x some e h k (inl m) = m
field_refused job f g rows ls chunks outcomes types x some e h k (inr (inl a)) = absurd (some a.1)
field_refused job f g rows ls chunks outcomes types x some e h k (inr (inr n)) = absurd (n.1 (opening job g rows ls outcomes) (opens job f g rows ls chunks outcomes types e h k))
