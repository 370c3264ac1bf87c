-- What is read of a chunk is its pages, or fails by its condition.
use Rattle.std.proofs.Common.{◌≡◌, ℕ, zero, suc, ◌+◌, ◌-◌, ◌<◌, List, [], ◌∷◌, ◌++◌, length, true, false, Option, Some, None, Result, Ok, Err, refl, sym, ap, ap₂, subst, ◌∙◌, inl, inr, append_assoc, append-nil, arith}
use Rattle.std.specs.Prelude.{◌⊎◌, ◌≢◌, All, IfSome}
use Rattle.std.proofs.lemmas.List.{map_push}
use Rattle.std.proofs.lemmas.List.Elements.{All-nil, All-cons, All-head, All-tail, All-push, All-weaker}
use Rattle.columns_base.specs.declared.error.Error.{Error}
use Rattle.columns_base.specs.declared.error.Error.TheVariants.{OutOfSpec, NotYetImplemented}
use Rattle.columns_base.specs.declared.error.S.TheVariants.{S3}
use Rattle.columns_base.specs.declared.error.N.TheVariants.{N4}
use Rattle.pq_metadata.specs.Header.{Header, data_page, data_page_2, dictionary_page}
use Rattle.pq_files.specs.Chunk.{RawPage, IsPageText, IsData, IsDictionary, Pages, here, page, count_in}
use Rattle.pq_files.specs.Page.{HasEncoding, dictionary}
use Rattle.pq_files.specs.PageReasons.{Reaches, IsNext, EncodingOfEntries, N4Next, S3 as PagesAreWrong}
use Rattle.pq_pages.specs.declared.place.Place.{Place}
use Rattle.pq_pages.specs.Outcomes.{Levels, Outcome, gives_page, gives_dictionary, fails, IsGiven, outcomes_of, IsOfLevels}
use Rattle.pq_pages.specs.Reading.{Further, at_start, fault_in, left_behind, next_page, outcome_in, pages_from, pages_in, place_behind, placed, read_on}
use Rattle.pq_pages.specs.ReadsChunk.{AreItsPages, HasUnnamed, HeaderIsLong, IsUnnamed, ReadsChunk}
use Rattle.pq_pages.proofs.NextFailed.{Fails, next_fails}
use Rattle.pq_pages.proofs.NextFound.{NextIs, next_is, next_shorter}
use Rattle.pq_pages.proofs.Placed.{Agrees, DataPasses, Misplaced, misplaced, passed, dictionary_passed}

-- ---- one page more

pages_more : (n m k : ℕ) (bytes rest text behind : List ℕ) (pages : List RawPage) (p : RawPage) → IsPageText text p → IsData p.header → rest ≡ text ++ behind → m ≡ count_in p.header + k → 0 < m → Pages n bytes pages m rest → Pages n bytes (pages ++ p ∷ []) k behind
pages_more _ _ k _ _ text behind _ p t is e c some (here m rest) =
    subst (λ (x : ℕ × List ℕ). Pages x.0 x.1 (p ∷ []) k behind) (λ i. (sym c i, sym e i)) (page k k text behind behind p [] t is (subst (λ (x : ℕ). 0 < x) c some) (here k behind))
pages_more _ _ k _ _ text behind _ p t is e c some (page n m first bytes rest q more u data_q some_q others) =
    page n k first bytes behind q (more ++ p ∷ []) u data_q some_q (pages_more n m k bytes rest text behind more p t is e c some others)

-- ---- where a reader stands

pub record Stands (n : ℕ) (bytes : List ℕ) (place : Place) (dict : Option RawPage) (pages : List RawPage) (left : ℕ) (rest : List ℕ) : Type 0 where
  pub agrees : Agrees place dict pages
  pub reaches : Reaches n bytes dict pages left rest
  pub fresh : place.is_first ≡ true → (left ≡ n) × (rest ≡ bytes)
  pub entries : IfSome dict (λ p. EncodingOfEntries p.header)
  pub named : All (λ p. IsUnnamed p.header → ⊥) pages
  pub indexed : All (λ p. HasEncoding p.header dictionary → dict ≢ None) pages

-- why an outcome fails
pub record Explains (max : ℕ) (levels : Levels) (n : ℕ) (bytes : List ℕ) (o : Outcome) : Type 0 where
  pub wrong : o ≡ fails (OutOfSpec S3) → PagesAreWrong n bytes ⊎ HeaderIsLong max n bytes
  pub unread : o ≡ fails (NotYetImplemented N4) → N4Next n bytes ⊎ HasUnnamed n bytes
  pub of_levels : IsOfLevels levels o
  pub no_other : (e : Error) → o ≡ fails e → (e ≡ OutOfSpec S3) ⊎ (e ≡ NotYetImplemented N4)

pub record Reads (max : ℕ) (levels : Levels) (n : ℕ) (bytes : List ℕ) (front os : List Outcome) : Type 0 where
  pub explains : All (Explains max levels n bytes) os
  pub whole : All IsGiven os → AreItsPages levels n bytes (front ++ os)

-- ---- failures

error_in : Error → Outcome → Error
error_in d (fails e) = e
error_in d (gives_page p levels) = d
error_in d (gives_dictionary n body) = d

fails_same : (a b : Error) → fails a ≡ fails b → a ≡ b
unfolding error_in
fails_same a b e = ap (error_in a) e

not_both : OutOfSpec S3 ≡ NotYetImplemented N4 → ⊥
not_both e = cc e

failed_wrong : (max : ℕ) (levels : Levels) (n : ℕ) (bytes : List ℕ) → PagesAreWrong n bytes ⊎ HeaderIsLong max n bytes → Explains max levels n bytes (fails (OutOfSpec S3))
failed_wrong max levels n bytes w =
    record { of_levels = tt; wrong = λ e. w; unread = λ e. absurd (not_both (fails_same (OutOfSpec S3) (NotYetImplemented N4) e)); no_other = λ x e. inl (sym (fails_same (OutOfSpec S3) x e)) }

failed_unread : (max : ℕ) (levels : Levels) (n : ℕ) (bytes : List ℕ) → N4Next n bytes ⊎ HasUnnamed n bytes → Explains max levels n bytes (fails (NotYetImplemented N4))
failed_unread max levels n bytes w =
    record { of_levels = tt; wrong = λ e. absurd (not_both (sym (fails_same (NotYetImplemented N4) (OutOfSpec S3) e))); unread = λ e. w; no_other = λ x e. inr (sym (fails_same (NotYetImplemented N4) x e)) }

only_failed : (max : ℕ) (levels : Levels) (n : ℕ) (bytes : List ℕ) (front : List Outcome) (e : Error) → Explains max levels n bytes (fails e) → Reads max levels n bytes front (fails e ∷ [])
only_failed max levels n bytes front e x =
    record { explains = All-cons (Explains max levels n bytes) (fails e) [] x (All-nil (Explains max levels n bytes)); whole = λ g. absurd (All-head IsGiven (fails e) [] g) }

next_explained : (max : ℕ) (levels : Levels) (n : ℕ) (bytes : List ℕ) (place : Place) (dict : Option RawPage) (pages : List RawPage) (left : ℕ) (rest : List ℕ) (e : Error) → Stands n bytes place dict pages left rest → 0 < left → Fails max rest e → Explains max levels n bytes (fails e)
next_explained max levels n bytes place dict pages left rest e s some (inl (is, inl x)) =
    subst (λ (f : Error). Explains max levels n bytes (fails f)) (sym is) (failed_wrong max levels n bytes (inl (record { dict = dict; pages = pages; m = left; rest = rest; reaches = s.reaches; some = some; wrong = inl (x.pages, x.other) })))
next_explained max levels n bytes place dict pages left rest e s some (inl (is, inr x)) =
    subst (λ (f : Error). Explains max levels n bytes (fails f)) (sym is)
    (failed_wrong max levels n bytes (inr (record { dict = dict; pages = pages; m = left; rest = rest; reaches = s.reaches; some = some; head = x.head; behind = x.behind; parts = x.parts; «value» = x.«value»; spells = x.spells; long = x.long })))
next_explained max levels n bytes place dict pages left rest e s some (inr (is, x)) =
    subst (λ (f : Error). Explains max levels n bytes (fails f)) (sym is) (failed_unread max levels n bytes (inl (record { dict = dict; pages = pages; m = left; rest = rest; reaches = s.reaches; some = some; other = x })))

to_next : (rest behind : List ℕ) (p : RawPage) → NextIs rest p behind → IsNext rest p
to_next rest behind p x = record { text = x.text; rest = behind; parts = x.parts; spells = x.is }

place_explained : (max : ℕ) (levels : Levels) (n : ℕ) (bytes : List ℕ) (place : Place) (dict : Option RawPage) (pages : List RawPage) (left : ℕ) (rest : List ℕ) (p : RawPage) (e : Error) → Stands n bytes place dict pages left rest → 0 < left → IsNext rest p → Misplaced dict pages left p e → Explains max levels n bytes (fails e)
place_explained max levels n bytes place dict pages left rest p e s some next (inl x) =
    subst (λ (f : Error). Explains max levels n bytes (fails f)) (sym x.0) (failed_wrong max levels n bytes (inl (record { dict = dict; pages = pages; m = left; rest = rest; reaches = s.reaches; some = some; wrong = inr (p, next, x.1) })))
place_explained max levels n bytes place dict pages left rest p e s some next (inr x) =
    subst (λ (f : Error). Explains max levels n bytes (fails f)) (sym x.0) (failed_unread max levels n bytes (inr (record { dict = dict; pages = pages; m = left; rest = rest; reaches = s.reaches; some = some; page = p; next = next; unnamed = x.1 })))

-- ---- pages

given_explained : (max : ℕ) (levels : Levels) (n : ℕ) (bytes : List ℕ) (o : Outcome) → IsOfLevels levels o → ((e : Error) → o ≡ fails e → ⊥) → Explains max levels n bytes o
given_explained max levels n bytes o own given = record { of_levels = own; wrong = λ e. absurd (given (OutOfSpec S3) e); unread = λ e. absurd (given (NotYetImplemented N4) e); no_other = λ f e. absurd (given f e) }

-- one outcome more in front
goes_on : (max : ℕ) (levels : Levels) (n : ℕ) (bytes : List ℕ) (front more os : List Outcome) (o : Outcome) → IsOfLevels levels o → ((e : Error) → o ≡ fails e → ⊥) → more ≡ front ++ o ∷ [] → Reads max levels n bytes more os → Reads max levels n bytes front (o ∷ os)
goes_on max levels n bytes front more os o own given e r =
    record {
      explains = All-cons (Explains max levels n bytes) o os (given_explained max levels n bytes o own given) r.explains;
      whole = λ g. subst (AreItsPages levels n bytes) (ap (λ (xs : List Outcome). xs ++ os) e ∙ append_assoc front (o ∷ []) os) (r.whole (All-tail IsGiven o os g));
    }

no_page_fails : (p : RawPage) (levels : Levels) (e : Error) → gives_page p levels ≡ fails e → ⊥
no_page_fails p levels e x = cc x

no_dictionary_fails : (n : ℕ) (body : List ℕ) (e : Error) → gives_dictionary n body ≡ fails e → ⊥
no_dictionary_fails n body e x = cc x

outcomes_more : (levels : Levels) (dict : Option RawPage) (pages : List RawPage) (p : RawPage) → outcomes_of levels dict (pages ++ p ∷ []) ≡ outcomes_of levels dict pages ++ gives_page p levels ∷ []
outcomes_more levels None pages p = map_push (λ q. gives_page q levels) pages p
outcomes_more levels (Some d) pages p = ap (λ (os : List Outcome). gives_dictionary (count_in d.header) d.body ∷ os) (map_push (λ q. gives_page q levels) pages p)

pages_some : (pages : List RawPage) (p : RawPage) → (pages ++ p ∷ []) ≢ []
pages_some [] p e = cc e
pages_some (q ∷ pages) p e = cc e

-- behind a data page
data_stands : (n : ℕ) (bytes : List ℕ) (place : Place) (dict : Option RawPage) (pages : List RawPage) (left : ℕ) (rest : List ℕ) (p : RawPage) (behind : List ℕ) → Stands n bytes place dict pages left rest → 0 < left → NextIs rest p behind → IsData p.header → DataPasses dict left p
    → Stands n bytes (record { has_dictionary = place.has_dictionary; is_first = false }) dict (pages ++ p ∷ []) (left - count_in p.header) behind
data_stands n bytes place dict pages left rest p behind s some x is ok =
    record {
      agrees = record { has = s.agrees.has; first = λ e. cc e; later = λ e. inl (pages_some pages p) };
      reaches =
          record {
            behind = s.reaches.behind;
            starts = s.reaches.starts;
            are = pages_more n left (left - count_in p.header) s.reaches.behind rest x.text behind pages p x.is is x.parts (omega (arith, ok.fits)) some s.reaches.are;
          };
      fresh = λ e. cc e;
      entries = s.entries;
      named = All-push (λ q. IsUnnamed q.header → ⊥) pages p s.named ok.named;
      indexed = All-push (λ q. HasEncoding q.header dictionary → dict ≢ None) pages p s.indexed ok.indexed;
    }

-- behind a dictionary page
dictionary_stands : (n : ℕ) (bytes : List ℕ) (place : Place) (dict : Option RawPage) (pages : List RawPage) (left : ℕ) (rest : List ℕ) (p : RawPage) (behind : List ℕ) → Stands n bytes place dict pages left rest → 0 < left → NextIs rest p behind → IsDictionary p.header
    → (place.is_first ≡ true) × EncodingOfEntries p.header → Stands n bytes (record { has_dictionary = true; is_first = false }) (Some p) [] left behind
dictionary_stands n bytes place dict pages left rest p behind s some x is ok =
    let fresh = s.fresh ok.0 in
    record {
      agrees = record { has = refl; first = λ e. cc e; later = λ e. inr (λ e. cc e) };
      reaches =
          record {
            behind = behind;
            starts = (x.text, x.is, is, subst (λ (k : ℕ). 0 < k) fresh.0 some, sym fresh.1 ∙ x.parts);
            are = subst (λ (k : ℕ). Pages k behind [] left behind) fresh.0 (here left behind);
          };
      fresh = λ e. cc e;
      entries = ok.1;
      named = All-nil (λ q. IsUnnamed q.header → ⊥);
      indexed = All-nil (λ q. HasEncoding q.header dictionary → Some p ≢ None);
    }

-- ---- all of them

-- how many turns are enough for fewer bytes
abbrev Rest : ℕ → Levels → ℕ → List ℕ → ℕ → Further → Type 0
Rest max levels n bytes most further =
    (place : Place) (dict : Option RawPage) (pages : List RawPage) (left : ℕ) (rest : List ℕ) → Stands n bytes place dict pages left rest → length rest < most → Reads max levels n bytes (outcomes_of levels dict pages) (further place left rest)

by_header : (max : ℕ) (levels : Levels) (n : ℕ) (bytes : List ℕ) (further : Further) (place : Place) (dict : Option RawPage) (pages : List RawPage) (left : ℕ) (rest : List ℕ) (h : Header) (body behind : List ℕ) → Rest max levels n bytes (length rest) further → Stands n bytes place dict pages left rest → 0 < left
    → NextIs rest (record { header = h; body = body }) behind → length behind < length rest → fault_in place left h ≡ None
    → Reads max levels n bytes (outcomes_of levels dict pages) (outcome_in levels h body ∷ further (place_behind place h) (left_behind left h) behind)
by_header max levels n bytes further place dict pages left rest (data_page h) body behind others s some x less ok =
    let p : RawPage = record { header = data_page h; body = body } in
    goes_on max levels n bytes (outcomes_of levels dict pages) (outcomes_of levels dict (pages ++ p ∷ [])) _ (gives_page p levels) refl (no_page_fails p levels) (outcomes_more levels dict pages p)
    (others _ dict (pages ++ p ∷ []) (left - h.num_values) behind (data_stands n bytes place dict pages left rest p behind s some x tt (passed place dict pages left p s.agrees tt ok)) less)
by_header max levels n bytes further place dict pages left rest (data_page_2 h) body behind others s some x less ok =
    let p : RawPage = record { header = data_page_2 h; body = body } in
    goes_on max levels n bytes (outcomes_of levels dict pages) (outcomes_of levels dict (pages ++ p ∷ [])) _ (gives_page p levels) refl (no_page_fails p levels) (outcomes_more levels dict pages p)
    (others _ dict (pages ++ p ∷ []) (left - h.num_values) behind (data_stands n bytes place dict pages left rest p behind s some x tt (passed place dict pages left p s.agrees tt ok)) less)
by_header max levels n bytes further place dict pages left rest (dictionary_page h) body behind others s some x less ok =
    let p : RawPage = record { header = dictionary_page h; body = body } in
    let may = dictionary_passed place left p tt ok in
    let none = s.agrees.first may.0 in
    goes_on max levels n bytes (outcomes_of levels dict pages) (outcomes_of levels (Some p) []) _ (gives_dictionary h.num_values body) tt (no_dictionary_fails h.num_values body)
    (sym (ap₂ (λ (d : Option RawPage) (ps : List RawPage). outcomes_of levels d ps ++ gives_dictionary h.num_values body ∷ []) none.0 none.1))
    (others _ (Some p) [] left behind (dictionary_stands n bytes place dict pages left rest p behind s some x tt may) less)

by_fault : (max : ℕ) (levels : Levels) (n : ℕ) (bytes : List ℕ) (further : Further) (place : Place) (dict : Option RawPage) (pages : List RawPage) (left : ℕ) (rest : List ℕ) (p : RawPage) (behind : List ℕ) (o : Option Error) → Rest max levels n bytes (length rest) further → Stands n bytes place dict pages left rest → 0 < left
    → next_page max rest ≡ Ok (p, behind) → fault_in place left p.header ≡ o → Reads max levels n bytes (outcomes_of levels dict pages) (placed further levels place left p behind o)
by_fault max levels n bytes further place dict pages left rest p behind None others s some is ok =
    by_header max levels n bytes further place dict pages left rest p.header p.body behind others s some (next_is max rest p behind is) (next_shorter max rest p behind is) ok
by_fault max levels n bytes further place dict pages left rest p behind (Some e) others s some is ok =
    only_failed max levels n bytes (outcomes_of levels dict pages) e (place_explained max levels n bytes place dict pages left rest p e s some (to_next rest behind p (next_is max rest p behind is)) (misplaced place dict pages left p e s.agrees ok))

by_next : (max : ℕ) (levels : Levels) (n : ℕ) (bytes : List ℕ) (further : Further) (place : Place) (dict : Option RawPage) (pages : List RawPage) (left : ℕ) (rest : List ℕ) (r : Result (RawPage × List ℕ) Error) → Rest max levels n bytes (length rest) further → Stands n bytes place dict pages left rest → 0 < left
    → next_page max rest ≡ r → Reads max levels n bytes (outcomes_of levels dict pages) (read_on further levels place left r)
by_next max levels n bytes further place dict pages left rest (Err e) others s some is =
    only_failed max levels n bytes (outcomes_of levels dict pages) e (next_explained max levels n bytes place dict pages left rest e s some (next_fails max rest e is))
by_next max levels n bytes further place dict pages left rest (Ok x) others s some is =
    by_fault max levels n bytes further place dict pages left rest x.0 x.1 (fault_in place left x.0.header) others s some is refl

ended : (max : ℕ) (levels : Levels) (n : ℕ) (bytes : List ℕ) (place : Place) (dict : Option RawPage) (pages : List RawPage) (rest : List ℕ) → Stands n bytes place dict pages 0 rest → Reads max levels n bytes (outcomes_of levels dict pages) []
ended max levels n bytes place dict pages rest s =
    record {
      explains = All-nil (Explains max levels n bytes);
      whole =
          λ g. record {
            dict = dict;
            pages = pages;
            are = append-nil (outcomes_of levels dict pages);
            has = record { behind = s.reaches.behind; starts = s.reaches.starts; surplus = rest; are = s.reaches.are };
            entries = s.entries;
            named = s.named;
            indexed = s.indexed;
          };
    }

reads : (turns max : ℕ) (levels : Levels) (n : ℕ) (bytes : List ℕ) → Rest max levels n bytes turns (pages_from turns max levels)
unfolding pages_from
reads turns max levels n bytes place dict pages zero rest s less = ended max levels n bytes place dict pages rest s
reads zero max levels n bytes place dict pages (suc left) rest s less = absurd (omega (arith, less))
reads (suc turns) max levels n bytes place dict pages (suc left) rest s less =
    by_next max levels n bytes (pages_from turns max levels) place dict pages (suc left) rest (next_page max rest) (λ other d ps k more t h. reads turns max levels n bytes other d ps k more t (omega (arith, h, less))) s (omega arith) refl

begins : (n : ℕ) (bytes : List ℕ) → Stands n bytes at_start None [] n bytes
begins n bytes =
    record {
      agrees = record { has = refl; first = λ e. (refl, refl); later = λ e. cc e };
      reaches = record { behind = bytes; starts = refl; are = here n bytes };
      fresh = λ e. (refl, refl);
      entries = tt;
      named = All-nil (λ q. IsUnnamed q.header → ⊥);
      indexed = All-nil (λ q. HasEncoding q.header dictionary → None ≢ None);
    }

pub chunk_read : (max : ℕ) (levels : Levels) (n : ℕ) (bytes : List ℕ) → ReadsChunk max levels n bytes (pages_in max levels at_start n bytes)
chunk_read max levels n bytes =
    let os = pages_in max levels at_start n bytes in
    let r = reads (suc (length bytes)) max levels n bytes at_start None [] n bytes (begins n bytes) (omega arith) in
    record {
      pages = r.whole;
      wrong = All-weaker (Explains max levels n bytes) (λ o. o ≡ fails (OutOfSpec S3) → PagesAreWrong n bytes ⊎ HeaderIsLong max n bytes) (λ o x. x.wrong) os r.explains;
      unread = All-weaker (Explains max levels n bytes) (λ o. o ≡ fails (NotYetImplemented N4) → N4Next n bytes ⊎ HasUnnamed n bytes) (λ o x. x.unread) os r.explains;
      of_levels = All-weaker (Explains max levels n bytes) (IsOfLevels levels) (λ o x. x.of_levels) os r.explains;
      no_other = All-weaker (Explains max levels n bytes) (λ o. (e : Error) → o ≡ fails e → (e ≡ OutOfSpec S3) ⊎ (e ≡ NotYetImplemented N4)) (λ o x. x.no_other) os r.explains;
    }
