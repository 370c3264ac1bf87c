-- Texts in memory are UTF-8.
use Rattle.std.proofs.Common.{List, [], ◌∷◌, String, Global, string_bytes, Option, Some, None, option_map, IfSome, IsUtf8}
use Rattle.std.specs.List.{AllByRecursion}
use Rattle.std.proofs.lemmas.Str.{IsUtf8-string_bytes}
use Rattle.columns_core.specs.Meta.{texts}
use Rattle.schema_codec.proofs.Turns.{Entry}

pub optional_text : (o : Option (String Global)) → IfSome (option_map string_bytes o) IsUtf8
optional_text None = tt
optional_text (Some s) = IsUtf8-string_bytes s

pub are_texts : (es : List Entry) → AllByRecursion (λ e. IsUtf8 e.0 × IsUtf8 e.1) (texts es)
are_texts [] = tt
are_texts (e ∷ es) = ((IsUtf8-string_bytes e.0, IsUtf8-string_bytes e.1), are_texts es)
