-- What was pushed of a column or a group, as the loops go on.
use Rattle.std.proofs.Common.{◌≡◌, ℕ, ◌+◌, List, [], ◌∷◌, ◌++◌, length, sym, ap, subst, ◌∙◌, append_assoc, arith, Option}
use Rattle.std.specs.Prelude.{sum_by}
use Rattle.std.specs.Io.KnownBytes.{Appends}
use Rattle.std.proofs.KnownBytes.{Appends-trans}
use Rattle.std.proofs.lemmas.List.{length-append}
use Rattle.std.proofs.lemmas.List.Sums.{sum_by-append}
use Rattle.shredding.specs.Slot.{Value}
use Rattle.pq_tree.specs.declared.version.Version.{Version}
use Rattle.pq_tree.specs.Tree.{Leaf}
use Rattle.pq_files.specs.Layout.{OutPage, OutChunk}
use Rattle.pq_files.specs.Packed.{ArePages, IsWrittenPage}
use Rattle.write_file.proofs.Grown.{pages_more}
use Rattle.write_file.specs.Pages.{with_page}

abbrev pub pairs_of : List OutPage → ℕ
pairs_of ps = sum_by (λ p. length p.triples) ps

-- the first data pages of a chunk are in the sink, and the others are still to come
pub record Going {S : Type 0} (gives : S → Version → Leaf → OutChunk → Type 0) (version : Version) (l : Leaf) (c : OutChunk) (now : S) (before after : Option (List ℕ)) (bytes pairs pages : ℕ) : Type 0 where
  pub done : List OutPage
  pub rest : OutChunk
  pub whole : c.pages ≡ done ++ rest.pages
  pub entries : rest.entries ≡ c.entries
  pub still : gives now version l rest
  pub text : List ℕ
  pub gained : Appends before after text
  pub bytes_are : bytes ≡ length text
  pub pairs_are : pairs ≡ pairs_of done
  pub pages_are : pages ≡ length done
  pub are : ArePages version l c.entries done text

-- one page more
pub going_on : {S : Type 0} (gives : S → Version → Leaf → OutChunk → Type 0) (version : Version) (l : Leaf) (c : OutChunk) (old now : S) (before middle after : Option (List ℕ)) (bytes pairs pages more count : ℕ) (o : OutPage) (rest : OutChunk) (t : List ℕ) (h : Going gives version l c old before middle bytes pairs pages) → h.rest ≡ with_page o rest → gives now version l rest → Appends middle after t → more ≡ length t → count ≡ length o.triples → IsWrittenPage version l h.rest.entries o t → Going gives version l c now before after (bytes + more) (pairs + count) (pages + 1)
going_on gives version l c old now before middle after bytes pairs pages more count o rest t h e still gained n k w = record {
  done = h.done ++ (o ∷ []);
  rest = rest;
  whole = h.whole ∙ (ap (λ (r : OutChunk). h.done ++ r.pages) e ∙ sym (append_assoc h.done (o ∷ []) rest.pages));
  entries = sym (ap (λ (r : OutChunk). r.entries) e) ∙ h.entries;
  still = still;
  text = h.text ++ t;
  gained = Appends-trans before middle after h.text t h.gained gained;
  bytes_are = omega (arith, h.bytes_are, n, length-append h.text t);
  pairs_are = omega (arith, h.pairs_are, k, sum_by-append (λ (p : OutPage). length p.triples) h.done (o ∷ []));
  pages_are = omega (arith, h.pages_are, length-append h.done (o ∷ []));
  are = pages_more version l c.entries h.done o h.text t h.are (subst (λ (es : Option (List Value)). IsWrittenPage version l es o t) h.entries w);
}

-- the same numbers, otherwise written
pub counted_as : {S : Type 0} (gives : S → Version → Leaf → OutChunk → Type 0) (version : Version) (l : Leaf) (c : OutChunk) (now : S) (before after : Option (List ℕ)) (bytes pairs pages bytes' pairs' pages' : ℕ) → Going gives version l c now before after bytes pairs pages → bytes' ≡ bytes → pairs' ≡ pairs → pages' ≡ pages → Going gives version l c now before after bytes' pairs' pages'
counted_as gives version l c now before after bytes pairs pages bytes' pairs' pages' h a b d = record {
  done = h.done;
  rest = h.rest;
  whole = h.whole;
  entries = h.entries;
  still = h.still;
  text = h.text;
  gained = h.gained;
  bytes_are = a ∙ h.bytes_are;
  pairs_are = b ∙ h.pairs_are;
  pages_are = d ∙ h.pages_are;
  are = h.are;
}
