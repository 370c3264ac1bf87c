-- The words one after another.
use Rattle.std.proofs.Common.{◌≡◌, ℕ, Bool, true, false, List, [], ◌∷◌, Option, Some, None, is_some, map, option_map, ◌+◌, ◌<◌, suc, length, drop, get_or, add-one, refl, sym, ◌∙◌, ap}
use Rattle.std.proofs.Math.Seq.{drop-cons, drop-length}
use Rattle.std.specs.Option.{option_and_then}
use Rattle.std.specs.List.{filter_map, cons_option}
use Rattle.pq_tree.specs.declared.version.Version as versions
use Rattle.schema_key.specs.declared.infer.KeyRule as rules_of_keys
use Rattle.rewrite_words.specs.declared.asked.Asked.{Asked}
use Rattle.rewrite_words.specs.declared.options.RewriteOptions.{RewriteOptions}
use Rattle.rewrite_words.specs.declared.setting.Setting.{Setting}
use Rattle.rewrite_words.specs.declared.setting.Setting.TheVariants.{Version, PageLimit, ChunkSize, Statistics, Delta, KeyRule, ByteLimit, PairLimit}
use Rattle.rewrite_words.specs.Asked.{is_set, with_setting, finished}
use Rattle.rewrite_words.specs.Words.{setting_of, settings_of, version_in, page_limit_in, chunk_size_in, statistics_in, delta_in, key_rule_in, byte_limit_in, pair_limit_in, sole, chosen, options_of}

-- the options by what was asked for so far and by the settings that follow
abbrev pub chosen_from : Asked → List Setting → Option RewriteOptions
chosen_from asked settings =
    chosen (sole (cons_option asked.version (filter_map version_in settings))) (sole (cons_option asked.page_limit (filter_map page_limit_in settings)))
    (sole (cons_option asked.chunk_size (filter_map chunk_size_in settings))) (sole (cons_option asked.statistics (filter_map statistics_in settings)))
    (sole (cons_option asked.delta (filter_map delta_in settings))) (sole (cons_option asked.key_rule (filter_map key_rule_in settings)))
    (sole (cons_option asked.byte_limit (filter_map byte_limit_in settings))) (sole (cons_option asked.pair_limit (filter_map pair_limit_in settings)))

unfoldable pub options_from : Asked → List (List ℕ) → Option RewriteOptions
options_from asked words = option_and_then (chosen_from asked) (settings_of words)

abbrev pub nothing : Asked
nothing =
    record { version = None; page_limit = None; chunk_size = None; statistics = None; delta = None; key_rule = None; byte_limit = None; pair_limit = None }

pub begun : (words : List (List ℕ)) → options_from nothing words ≡ options_of words
unfolding options_from options_of
begun words = refl

pub no_word : (asked : Asked) (word : List ℕ) (words : List (List ℕ)) → setting_of word ≡ None → options_from asked (word ∷ words) ≡ None
unfolding options_from
no_word asked word words h = rw h refl

free : {A : Type 0} (o : Option A) (x : A) (xs : List A) → is_some o ≡ false → sole (cons_option o (x ∷ xs)) ≡ sole (x ∷ xs)
free None x xs h = refl
free (Some y) x xs h = cc

taken : {A : Type 0} (o : Option A) (x : A) (xs : List A) → is_some o ≡ true → sole (cons_option o (x ∷ xs)) ≡ None
taken None x xs h = cc
taken (Some y) x xs h = refl

set_one : (a : Asked) (s : Setting) (more : List Setting) → is_set a s ≡ false → chosen_from a (s ∷ more) ≡ chosen_from (with_setting a s) more
set_one a (Version x) more h = rw (free a.version x (filter_map version_in more) h) refl
set_one a (PageLimit x) more h = rw (free a.page_limit x (filter_map page_limit_in more) h) refl
set_one a (ChunkSize x) more h = rw (free a.chunk_size x (filter_map chunk_size_in more) h) refl
set_one a (Statistics x) more h = rw (free a.statistics x (filter_map statistics_in more) h) refl
set_one a (Delta x) more h = rw (free a.delta x (filter_map delta_in more) h) refl
set_one a (KeyRule x) more h = rw (free a.key_rule x (filter_map key_rule_in more) h) refl
set_one a (ByteLimit x) more h = rw (free a.byte_limit x (filter_map byte_limit_in more) h) refl
set_one a (PairLimit x) more h = rw (free a.pair_limit x (filter_map pair_limit_in more) h) refl

-- none where one of them is given twice
no_second : (v : Option (Option versions.Version)) (c : Option (Option ℕ)) (s : Option (Option Bool)) (d : Option (Option Bool)) (k : Option (Option rules_of_keys.KeyRule)) (b : Option (Option ℕ)) (l : Option (Option ℕ))
    → chosen v None c s d k b l ≡ None
no_second None c s d k b l = refl
no_second (Some v) c s d k b l = refl

no_third : (v : Option (Option versions.Version)) (p : Option (Option ℕ)) (s : Option (Option Bool)) (d : Option (Option Bool)) (k : Option (Option rules_of_keys.KeyRule)) (b : Option (Option ℕ)) (l : Option (Option ℕ))
    → chosen v p None s d k b l ≡ None
no_third None p s d k b l = refl
no_third (Some v) None s d k b l = refl
no_third (Some v) (Some p) s d k b l = refl

no_fourth : (v : Option (Option versions.Version)) (p : Option (Option ℕ)) (c : Option (Option ℕ)) (d : Option (Option Bool)) (k : Option (Option rules_of_keys.KeyRule)) (b : Option (Option ℕ)) (l : Option (Option ℕ))
    → chosen v p c None d k b l ≡ None
no_fourth None p c d k b l = refl
no_fourth (Some v) None c d k b l = refl
no_fourth (Some v) (Some p) None d k b l = refl
no_fourth (Some v) (Some p) (Some c) d k b l = refl

no_fifth : (v : Option (Option versions.Version)) (p : Option (Option ℕ)) (c : Option (Option ℕ)) (s : Option (Option Bool)) (k : Option (Option rules_of_keys.KeyRule)) (b : Option (Option ℕ)) (l : Option (Option ℕ))
    → chosen v p c s None k b l ≡ None
no_fifth None p c s k b l = refl
no_fifth (Some v) None c s k b l = refl
no_fifth (Some v) (Some p) None s k b l = refl
no_fifth (Some v) (Some p) (Some c) None k b l = refl
no_fifth (Some v) (Some p) (Some c) (Some s) k b l = refl

no_sixth : (v : Option (Option versions.Version)) (p : Option (Option ℕ)) (c : Option (Option ℕ)) (s : Option (Option Bool)) (d : Option (Option Bool)) (b : Option (Option ℕ)) (l : Option (Option ℕ))
    → chosen v p c s d None b l ≡ None
no_sixth None p c s d b l = refl
no_sixth (Some v) None c s d b l = refl
no_sixth (Some v) (Some p) None s d b l = refl
no_sixth (Some v) (Some p) (Some c) None d b l = refl
no_sixth (Some v) (Some p) (Some c) (Some s) None b l = refl
no_sixth (Some v) (Some p) (Some c) (Some s) (Some d) b l = refl

no_seventh : (v : Option (Option versions.Version)) (p : Option (Option ℕ)) (c : Option (Option ℕ)) (s : Option (Option Bool)) (d : Option (Option Bool)) (k : Option (Option rules_of_keys.KeyRule)) (l : Option (Option ℕ))
    → chosen v p c s d k None l ≡ None
no_seventh None p c s d k l = refl
no_seventh (Some v) None c s d k l = refl
no_seventh (Some v) (Some p) None s d k l = refl
no_seventh (Some v) (Some p) (Some c) None d k l = refl
no_seventh (Some v) (Some p) (Some c) (Some s) None k l = refl
no_seventh (Some v) (Some p) (Some c) (Some s) (Some d) None l = refl
no_seventh (Some v) (Some p) (Some c) (Some s) (Some d) (Some k) l = refl

no_eighth : (v : Option (Option versions.Version)) (p : Option (Option ℕ)) (c : Option (Option ℕ)) (s : Option (Option Bool)) (d : Option (Option Bool)) (k : Option (Option rules_of_keys.KeyRule)) (b : Option (Option ℕ))
    → chosen v p c s d k b None ≡ None
no_eighth None p c s d k b = refl
no_eighth (Some v) None c s d k b = refl
no_eighth (Some v) (Some p) None s d k b = refl
no_eighth (Some v) (Some p) (Some c) None d k b = refl
no_eighth (Some v) (Some p) (Some c) (Some s) None k b = refl
no_eighth (Some v) (Some p) (Some c) (Some s) (Some d) None b = refl
no_eighth (Some v) (Some p) (Some c) (Some s) (Some d) (Some k) None = refl
no_eighth (Some v) (Some p) (Some c) (Some s) (Some d) (Some k) (Some b) = refl

given_twice : (a : Asked) (s : Setting) (more : List Setting) → is_set a s ≡ true → chosen_from a (s ∷ more) ≡ None
given_twice a (Version x) more h = rw (taken a.version x (filter_map version_in more) h) refl
given_twice a (PageLimit x) more h = rw (taken a.page_limit x (filter_map page_limit_in more) h) (no_second _ _ _ _ _ _ _)
given_twice a (ChunkSize x) more h = rw (taken a.chunk_size x (filter_map chunk_size_in more) h) (no_third _ _ _ _ _ _ _)
given_twice a (Statistics x) more h = rw (taken a.statistics x (filter_map statistics_in more) h) (no_fourth _ _ _ _ _ _ _)
given_twice a (Delta x) more h = rw (taken a.delta x (filter_map delta_in more) h) (no_fifth _ _ _ _ _ _ _)
given_twice a (KeyRule x) more h = rw (taken a.key_rule x (filter_map key_rule_in more) h) (no_sixth _ _ _ _ _ _ _)
given_twice a (ByteLimit x) more h = rw (taken a.byte_limit x (filter_map byte_limit_in more) h) (no_seventh _ _ _ _ _ _ _)
given_twice a (PairLimit x) more h = rw (taken a.pair_limit x (filter_map pair_limit_in more) h) (no_eighth _ _ _ _ _ _ _)

by_rest_one : (a : Asked) (s : Setting) (o : Option (List Setting)) → is_set a s ≡ false
    → option_and_then (chosen_from a) (option_map (λ more. s ∷ more) o) ≡ option_and_then (chosen_from (with_setting a s)) o
by_rest_one a s None h = refl
by_rest_one a s (Some more) h = set_one a s more h

by_rest_twice : (a : Asked) (s : Setting) (o : Option (List Setting)) → is_set a s ≡ true → option_and_then (chosen_from a) (option_map (λ more. s ∷ more) o) ≡ None
by_rest_twice a s None h = refl
by_rest_twice a s (Some more) h = given_twice a s more h

pub goes_on : (a : Asked) (word : List ℕ) (words : List (List ℕ)) (s : Setting) → setting_of word ≡ Some s → is_set a s ≡ false
    → options_from a (word ∷ words) ≡ options_from (with_setting a s) words
unfolding options_from
goes_on a word words s e h = rw e (by_rest_one a s (settings_of words) h)

pub twice : (a : Asked) (word : List ℕ) (words : List (List ℕ)) (s : Setting) → setting_of word ≡ Some s → is_set a s ≡ true → options_from a (word ∷ words) ≡ None
unfolding options_from
twice a word words s e h = rw e (by_rest_twice a s (settings_of words) h)

alone : {A : Type 0} (o : Option A) → sole (cons_option o []) ≡ Some o
alone None = refl
alone (Some x) = refl

pub over : (a : Asked) → options_from a [] ≡ Some (finished a)
unfolding options_from
over a =
    rw (alone a.version) (rw (alone a.page_limit) (rw (alone a.chunk_size) (rw (alone a.statistics)
    (rw (alone a.delta) (rw (alone a.key_rule) (rw (alone a.byte_limit) (rw (alone a.pair_limit) refl)))))))

-- the next word stands before those behind it
pub opened : {A : Type 0} (f : A → List ℕ) (xs : List A) (i : ℕ) (x : A) → i < length xs → x ≡ get_or xs i x → map f (drop i xs) ≡ f x ∷ map f (drop (i + 1) xs)
opened f xs i x h e = rw add-one (ap (map f) (drop-cons xs i x h) ∙ ap (λ y. f y ∷ map f (drop (suc i) xs)) (sym e))

pub closed : {A : Type 0} (f : A → List ℕ) (xs : List A) (i : ℕ) → i ≡ length xs → map f (drop i xs) ≡ []
closed f xs i h = rw h (ap (map f) (drop-length xs))
