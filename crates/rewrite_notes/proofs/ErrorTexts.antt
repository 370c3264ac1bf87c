-- How long the text of an error is.
use Rattle.std.proofs.Common.{◌≤◌, length, lit≤}
use Rattle.columns_base.specs.Reasons.{error_text}
use Rattle.columns_base.specs.declared.error.Error.{Error}
use Rattle.columns_base.specs.declared.error.Error.TheVariants.{ReadFault, WriteFault, InputLimit, OutOfSpec, NotYetImplemented, InvalidArgumentError, Overflow, Memory}
use Rattle.columns_base.specs.declared.error.Limit.TheVariants.{Bytes, Pairs}
use Rattle.columns_base.specs.declared.error.S.TheVariants.{S1, S2, S3, S4, S5, S6, S7, S8, S9, S10}
use Rattle.columns_base.specs.declared.error.N.TheVariants.{N1, N2, N3, N4, N5, N6, N7, N8}
use Rattle.columns_base.specs.declared.error.A.TheVariants.{A1, A2, A3, A4, A5, A6, A7, A8}
use Rattle.columns_base.specs.declared.error.V.TheVariants.{V1, V2, V3}

pub length_error_text : (e : Error) → length (error_text e) ≤ 30
length_error_text ReadFault = lit≤ tt
length_error_text WriteFault = lit≤ tt
length_error_text (InputLimit Bytes) = lit≤ tt
length_error_text (InputLimit Pairs) = lit≤ tt
length_error_text (OutOfSpec S1) = lit≤ tt
length_error_text (OutOfSpec S2) = lit≤ tt
length_error_text (OutOfSpec S3) = lit≤ tt
length_error_text (OutOfSpec S4) = lit≤ tt
length_error_text (OutOfSpec S5) = lit≤ tt
length_error_text (OutOfSpec S6) = lit≤ tt
length_error_text (OutOfSpec S7) = lit≤ tt
length_error_text (OutOfSpec S8) = lit≤ tt
length_error_text (OutOfSpec S9) = lit≤ tt
length_error_text (OutOfSpec S10) = lit≤ tt
length_error_text (NotYetImplemented N1) = lit≤ tt
length_error_text (NotYetImplemented N2) = lit≤ tt
length_error_text (NotYetImplemented N3) = lit≤ tt
length_error_text (NotYetImplemented N4) = lit≤ tt
length_error_text (NotYetImplemented N5) = lit≤ tt
length_error_text (NotYetImplemented N6) = lit≤ tt
length_error_text (NotYetImplemented N7) = lit≤ tt
length_error_text (NotYetImplemented N8) = lit≤ tt
length_error_text (InvalidArgumentError A1) = lit≤ tt
length_error_text (InvalidArgumentError A2) = lit≤ tt
length_error_text (InvalidArgumentError A3) = lit≤ tt
length_error_text (InvalidArgumentError A4) = lit≤ tt
length_error_text (InvalidArgumentError A5) = lit≤ tt
length_error_text (InvalidArgumentError A6) = lit≤ tt
length_error_text (InvalidArgumentError A7) = lit≤ tt
length_error_text (InvalidArgumentError A8) = lit≤ tt
length_error_text (Overflow V1) = lit≤ tt
length_error_text (Overflow V2) = lit≤ tt
length_error_text (Overflow V3) = lit≤ tt
length_error_text Memory = lit≤ tt
