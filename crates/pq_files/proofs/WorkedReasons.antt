-- Worked examples of reasons.
use Rattle.std.proofs.Common.{◌≡◌, ◌≢◌, ℕ, ◌+◌, ◌≤◌, ℤ, pos, negsuc, List, [], ◌∷◌, ◌++◌, map, Option, Some, None, is_some, nat_eq, take, drop, refl, sym, ap, subst, ◌∙◌, inl, inr, append_assoc, arith}
use Rattle.std.proofs.lemmas.List.{length-map}
use Rattle.std.proofs.lemmas.List.Elements.{All-from_recursion, All-nil}
use Rattle.std.specs.Prelude.{count_by}
use Rattle.pq_runs.specs.Hybrid.{runs_items, hybrid}
use Rattle.pq_runs.specs.Runs.{last_groups}
use Rattle.pq_numbers.specs.Varint.{varint_up_to}
use Rattle.pq_thrift.specs.Grammar.{Spells}
use Rattle.pq_thrift.specs.Value.{Value as Thrift, struct, no_fields}
use Rattle.pq_thrift.proofs.OneReading.{same_reading}
use Rattle.shredding.specs.Shape.{signed}
use Rattle.shredding.specs.Shred.{Triple, shred}
use Rattle.shredding.specs.Slot.{number}
use Rattle.pq_tree.specs.Physical.{int32}
use Rattle.pq_metadata.proofs.Injective.{cons_same, pos_same}
use Rattle.pq_files.specs.Reasons.{S2, N1, N3}
use Rattle.std.proofs.lemmas.Int.{ints}
use Rattle.pq_files.specs.Chunk.{RawPage, IsPageText, here, page, count_in}
use Rattle.pq_files.specs.FirstFile.{head, body, the_leaf, triples}
use Rattle.pq_files.specs.Levels.{HasLevels}
use Rattle.pq_files.specs.NearMiss.{header, cut_levels}
use Rattle.pq_files.specs.Page.{plain, dictionary, HasEncoding, Sections, IsSplit}
use Rattle.pq_files.specs.PageReasons.{Reaches, IsNext, S3, S4, ShowsPairs, HasPairs, GoesOn, called_by, IsOutside}
use Rattle.pq_files.specs.RowReasons.{without_value, ReadsTriples, HasTriples, S9}
use Rattle.pq_files.specs.WorkedReasons.{meta_of, footer_with, the_footer, page_of, inside, bit_packed, entries, AreReasons}
use Rattle.pq_files.proofs.Excluded.{counted_by, same_pairs}
use Rattle.pq_files.proofs.FirstFile as first
use Rattle.pq_files.proofs.NearMiss.{short}
use Rattle.pq_files.proofs.Sections.{behind_length, length_at, two}
use Rattle.pq_files.proofs.Unique.{every, split_same, levels_same}
use Rattle.pq_files.proofs.Worked.{plain_cut, too_large}

-- ---- the footer

chunk_stands : ¬ S2 42 the_footer
chunk_stands (inl (inl e)) = e refl
chunk_stands (inl (inr (inl n))) = omega (arith, ints, n)
chunk_stands (inl (inr (inr (inl (inl e))))) = e refl
chunk_stands (inl (inr (inr (inl (inr (inl n)))))) = omega (arith, ints, n)
chunk_stands (inl (inr (inr (inl (inr (inr (inl n))))))) = omega (arith, ints, n)
chunk_stands (inl (inr (inr (inl (inr (inr (inr (inl n)))))))) = omega (arith, ints, n)
chunk_stands (inl (inr (inr (inl (inr (inr (inr (inr o)))))))) = omega (arith, pos_same 4 o.0 o.2, pos_same 38 o.1 o.3, o.4)
chunk_stands (inl (inr (inr (inr z)))) = z
chunk_stands (inr z) = z

chunk_reaches : S2 41 the_footer
chunk_reaches = inl (inr (inr (inl (inr (inr (inr (inr (4, 38, refl, refl, omega arith))))))))

chunk_negative : S2 42 (footer_with (meta_of (pos 0) (negsuc 0) None ∷ []))
chunk_negative = inl (inr (inr (inl (inr (inr (inl (omega (arith, ints))))))))

chunk_lacks : S2 42 (footer_with [])
chunk_lacks = inl (inl (λ e. omega (arith, e)))

plain_codec : ¬ N1 the_footer
plain_codec (inl (inl d)) = d refl
plain_codec (inl (inr z)) = z
plain_codec (inr z) = z

other_codec : ◌≢◌ {A = ℤ} (pos 1) (pos 0)
other_codec e = omega (arith, pos_same 1 0 e)

this_file : ¬ N3 (footer_with (meta_of (pos 0) (pos 38) (Some []) ∷ []))
this_file (inl (inl d)) = d.1 refl
this_file (inl (inr z)) = z
this_file (inr z) = z

other_file : N3 (footer_with (meta_of (pos 0) (pos 38) (Some (120 ∷ [])) ∷ []))
other_file = inl (inl ((λ e. cc e), (λ e. cc e)))

-- ---- the first file's page

whole_text : IsPageText (head ++ body) (page_of body)
unfolding first.the_page first.header
whole_text = first.is_page_text

whole_next : IsNext (head ++ body) (page_of body)
whole_next = record { text = head ++ body; rest = []; parts = refl; spells = whole_text }

-- of n more values, where it is the first page
reaches : (n : ℕ) → Reaches (5 + n) (head ++ body) None (page_of body ∷ []) n []
reaches n = record { behind = head ++ body; starts = refl; are = page n n (head ++ body) [] [] (page_of body) [] whole_text tt (omega arith) (here n []) }

sections : Sections
sections = record { repetition = 3 ∷ 2 ∷ []; definition = 3 ∷ 79 ∷ 2 ∷ []; values = 1 ∷ 0 ∷ 0 ∷ 0 ∷ 2 ∷ 0 ∷ 0 ∷ 0 ∷ [] }

split : IsSplit the_leaf (header 5) body sections
unfolding sections
split =
    record {
      behind = 3 ∷ 0 ∷ 0 ∷ 0 ∷ 3 ∷ 79 ∷ 2 ∷ 1 ∷ 0 ∷ 0 ∷ 0 ∷ 2 ∷ 0 ∷ 0 ∷ 0 ∷ [];
      repetition = (2 ∷ 0 ∷ 0 ∷ 0 ∷ [], refl, refl, refl);
      definition = (3 ∷ 0 ∷ 0 ∷ 0 ∷ [], refl, refl, refl);
    }

pairs : List Triple
pairs = map without_value triples

shows : ShowsPairs the_leaf (page_of body) pairs
unfolding pairs sections shred
shows =
    record {
      runs = (refl, refl);
      sections = sections;
      split = split;
      repetitions = first.repetitions;
      definitions = first.definitions;
      none = All-from_recursion (λ t. t.value ≡ None) (map without_value triples) (refl, (refl, (refl, (refl, (refl, tt)))));
      few = omega arith;
    }

has_pairs : HasPairs the_leaf (page_of body) pairs
unfolding pairs shred
has_pairs = (shows, refl)

-- ---- pages that lack, and pages of too many values

nothing_spelled : (t rest : List ℕ) (v : Thrift) → Spells t v → [] ≡ t ++ rest → ⊥
nothing_spelled [] rest v s e = cc ((same_reading [] (0 ∷ []) (0 ∷ []) [] v (struct no_fields) s (refl, refl) refl).0)
nothing_spelled (b ∷ t) rest v s e = cc e

none_next : (p : RawPage) → IsNext [] p → ⊥
none_next p n =
    let t = n.spells in
    nothing_spelled t.head (p.body ++ n.rest) t.value t.spells (n.parts ∙ ap (λ (x : List ℕ). x ++ n.rest) t.parts ∙ append_assoc t.head p.body n.rest)

page_lacks : S3 6 (head ++ body)
page_lacks =
    record {
      dict = None;
      pages = page_of body ∷ [];
      m = 1;
      rest = [];
      reaches = reaches 1;
      some = omega arith;
      wrong = inl (none_next, λ o. nothing_spelled o.spells.text o.spells.rest (struct o.fields) o.spells.spells o.spells.parts);
    }

page_too_large : S3 4 (head ++ body)
page_too_large =
    record {
      dict = None;
      pages = [];
      m = 4;
      rest = head ++ body;
      reaches = record { behind = head ++ body; starts = refl; are = here 4 (head ++ body) };
      some = omega arith;
      wrong = inr (page_of body, whole_next, inr (tt, inl (omega arith)));
    }

-- ---- levels

levels_cut : (ts : List Triple) → HasPairs the_leaf (page_of cut_levels) ts → ⊥
unfolding hybrid runs_items varint_up_to
levels_cut ts h =
    let p = h.0 in
    let r = behind_length 0 cut_levels p.sections.repetition p.split.behind p.split.repetition in
    let d = behind_length 2 p.split.behind p.sections.definition p.sections.values p.split.definition in
    let section : p.sections.definition ≡ 3 ∷ 79 ∷ [] = d.0 ∙ ap (λ (s : List ℕ). take (length_at s) (drop 4 s)) r.1 in
    short 5 2 (3 ∷ 79 ∷ []) (map (λ t. t.definition) ts) refl (length-map ts (λ (t : Triple). t.definition) ∙ h.1) 3 two (subst (λ (s : List ℕ). HasLevels 3 s (map (λ t. t.definition) ts)) section p.definitions)

levels_stand : ¬ S4 the_leaf (page_of body)
levels_stand s = s.2 pairs has_pairs

goes_on : GoesOn the_leaf (page_of inside)
goes_on =
    record {
      first = record { repetition = 1; definition = 3; value = None };
      shows =
          record {
            runs = (refl, refl);
            sections = record { repetition = 3 ∷ 3 ∷ []; definition = 3 ∷ 79 ∷ 2 ∷ []; values = 1 ∷ 0 ∷ 0 ∷ 0 ∷ 2 ∷ 0 ∷ 0 ∷ 0 ∷ [] };
            split =
                record {
                  behind = 3 ∷ 0 ∷ 0 ∷ 0 ∷ 3 ∷ 79 ∷ 2 ∷ 1 ∷ 0 ∷ 0 ∷ 0 ∷ 2 ∷ 0 ∷ 0 ∷ 0 ∷ [];
                  repetition = (2 ∷ 0 ∷ 0 ∷ 0 ∷ [], refl, refl, refl);
                  definition = (3 ∷ 0 ∷ 0 ∷ 0 ∷ [], refl, refl, refl);
                };
            repetitions = one_in_bits;
            definitions = three_in_bits;
            none = All-from_recursion (λ t. t.value ≡ None) (record { repetition = 1; definition = 3; value = None } ∷ []) (refl, tt);
            few = omega arith;
          };
      repeats = omega arith;
    }
  where
    one_in_bits : HasLevels 1 (3 ∷ 3 ∷ []) (1 ∷ [])
    one_in_bits = record { width = 1; is_width = first.one_bit; runs = record { text = 3 ∷ 3 ∷ []; rest = []; parts = refl; spells = last_groups 1 1 (3 ∷ []) (3 ∷ []) first.three (omega arith) (omega arith) (omega arith) (omega arith) }; within = All-from_recursion (λ level. level ≤ 1) (1 ∷ []) (omega arith, tt) }

    three_in_bits : HasLevels 3 (3 ∷ 79 ∷ 2 ∷ []) (3 ∷ [])
    three_in_bits = record { width = 2; is_width = first.two_bits; runs = record { text = 3 ∷ 79 ∷ 2 ∷ []; rest = []; parts = refl; spells = last_groups 1 1 (3 ∷ []) (79 ∷ 2 ∷ []) first.three (omega arith) (omega arith) (omega arith) (omega arith) }; within = All-from_recursion (λ level. level ≤ 3) (3 ∷ []) (omega arith, tt) }

begins_row : ¬ GoesOn the_leaf (page_of body)
unfolding sections
begins_row g =
    let same = split_same the_leaf (header 5) body g.shows.sections sections g.shows.split split in
    let e : g.first.repetition ∷ [] ≡ 0 ∷ [] = levels_same 1 g.shows.sections.repetition sections.repetition (g.first.repetition ∷ []) (0 ∷ []) same.repetition g.shows.repetitions zero_in_bits refl in
    omega (arith, (cons_same _ _ _ _ e).0, g.repeats)
  where
    zero_in_bits : HasLevels 1 (3 ∷ 2 ∷ []) (0 ∷ [])
    zero_in_bits = record { width = 1; is_width = first.one_bit; runs = record { text = 3 ∷ 2 ∷ []; rest = []; parts = refl; spells = last_groups 1 1 (3 ∷ []) (2 ∷ []) first.three (omega arith) (omega arith) (omega arith) (omega arith) }; within = All-from_recursion (λ level. level ≤ 1) (0 ∷ []) (omega arith, tt) }

not_in_runs : ¬ GoesOn the_leaf (bit_packed inside)
not_in_runs g = other_encoding g.shows.runs.1
  where
    other_encoding : ◌≡◌ {A = Option ℤ} (Some (pos 4)) (Some (pos 3)) → ⊥
    other_encoding e = cc e

-- ---- rows

-- two values are called for
calls : (all : List Triple) → HasPairs the_leaf (page_of body) all → 2 ≡ called_by the_leaf all
unfolding pairs shred
calls all has =
    let same = same_pairs the_leaf (page_of body) all pairs has has_pairs in
    sym (counted_by Triple (λ t. t.definition) 3 all ∙ ap (λ (ds : List ℕ). count_by (λ d. nat_eq d 3) ds) same.definitions)

reads : ReadsTriples (signed 32) the_leaf None (page_of body) triples
unfolding pairs shows sections shred
reads =
    record {
      pairs = record { encoding = plain; has_encoding = refl; is_read = tt; shows = shows; begins_row = refl };
      present = All-from_recursion (λ x. is_some x.value ≡ nat_eq x.definition 3) triples (refl, (refl, (refl, (refl, (refl, tt)))));
      called = 2;
      calls = calls;
      begins = (
        omega arith,
        record {
          text = 1 ∷ 0 ∷ 0 ∷ 0 ∷ 2 ∷ 0 ∷ 0 ∷ 0 ∷ [];
          rest = [];
          parts = refl;
          spells = (1 ∷ 0 ∷ 0 ∷ 0 ∷ [], 2 ∷ 0 ∷ 0 ∷ 0 ∷ [], (refl, refl), (2 ∷ 0 ∷ 0 ∷ 0 ∷ [], [], (refl, refl), refl, refl), refl);
        },
      );
      inside = All-from_recursion (λ v. ¬ IsOutside (signed 32) int32 v) (number (pos 1) ∷ number (pos 2) ∷ []) (λ o. o (number (pos 1)) (omega arith, omega arith, refl), (λ o. o (number (pos 2)) (omega arith, omega arith, refl), tt));
    }

column : HasTriples (signed 32) the_leaf None 5 (head ++ body) triples []
unfolding shred
column =
    record {
      dict = None;
      front = (tt, tt);
      pages = page_of body ∷ [];
      m = 0;
      rest = [];
      reaches = reaches 0;
      placed = All-from_recursion (λ p. HasEncoding p.header dictionary → ◌≢◌ {A = Option RawPage} None None) (page_of body ∷ []) (not_indexed, tt);
      are = (triples, [], reads, refl, refl, refl);
      next = inl refl;
    }
  where
    not_indexed : Some plain ≡ Some dictionary → ◌≢◌ {A = Option RawPage} None None
    not_indexed e = absurd (cc e)

row_lacks : S9 (signed 32) the_leaf 5 5 (head ++ body)
unfolding column shred
row_lacks = inr (inl (record { entries = None; triples = triples; reads = column; to_end = refl; otherwise = differ }))
  where
    differ : ◌≡◌ {A = ℕ} 4 5 → ⊥
    differ e = omega (arith, e)

row_more : S9 (signed 32) the_leaf 3 5 (head ++ body)
unfolding shred
row_more = inr (inr (record { entries = None; whole = triples; part = []; reads = column; more = omega arith }))

pub are_reasons : AreReasons
are_reasons =
    record {
      chunk_stands = chunk_stands;
      chunk_reaches = chunk_reaches;
      chunk_negative = chunk_negative;
      chunk_lacks = chunk_lacks;
      compressed = (inl (inl other_codec), plain_codec);
      elsewhere = (other_file, this_file);
      page_lacks = page_lacks;
      page_too_large = page_too_large;
      levels_lack = (tt, (refl, refl), levels_cut);
      levels_stand = levels_stand;
      no_levels = λ s. s.0;
      first_inside = (goes_on, inl (All-nil (λ q. count_in q.header ≡ 0)));
      next_inside = (goes_on, tt, λ e. cc e);
      begins_row = begins_row;
      not_in_runs = not_in_runs;
      entry_lacks = (inl refl, λ es are. plain_cut es (sym are.0) are.2);
      entry_outside =
          record {
            entries = entries;
            are = (refl, inl refl, record { text = 44 ∷ 1 ∷ 0 ∷ 0 ∷ []; rest = []; parts = refl; spells = (44 ∷ 1 ∷ 0 ∷ 0 ∷ [], [], (refl, refl), refl, refl) });
            stored = number (pos 300);
            is_one = (0, omega arith, refl);
            outside = too_large;
          };
      entry_not_read = λ r. (every (λ v. ¬ IsOutside (signed 8) int32 v) entries r.1).0 too_large;
      row_lacks = row_lacks;
      row_more = row_more;
    }
