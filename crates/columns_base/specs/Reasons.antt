-- The words of each reason.
use Rattle.std.specs.Prelude.{ℕ, List, codes}
use Rattle.columns_base.specs.declared.error.Error.{Error}
use Rattle.columns_base.specs.declared.error.Error.TheVariants.{ReadFault, WriteFault, InputLimit, OutOfSpec, NotYetImplemented, InvalidArgumentError, Overflow, Memory}
use Rattle.columns_base.specs.declared.error.Limit.TheVariants.{Bytes, Pairs}
use Rattle.columns_base.specs.declared.error.S.TheVariants.{S1, S2, S3, S4, S5, S6, S7, S8, S9, S10}
use Rattle.columns_base.specs.declared.error.N.TheVariants.{N1, N2, N3, N4, N5, N6, N7, N8}
use Rattle.columns_base.specs.declared.error.A.TheVariants.{A1, A2, A3, A4, A5, A6, A7, A8}
use Rattle.columns_base.specs.declared.error.V.TheVariants.{V1, V2, V3}

abbrev pub error_text : Error → List ℕ
error_text ReadFault = codes "ReadFault"
error_text WriteFault = codes "WriteFault"
error_text (InputLimit Bytes) = codes "InputLimit Bytes"
error_text (InputLimit Pairs) = codes "InputLimit Pairs"
error_text (OutOfSpec S1) = codes "OutOfSpec S1"
error_text (OutOfSpec S2) = codes "OutOfSpec S2"
error_text (OutOfSpec S3) = codes "OutOfSpec S3"
error_text (OutOfSpec S4) = codes "OutOfSpec S4"
error_text (OutOfSpec S5) = codes "OutOfSpec S5"
error_text (OutOfSpec S6) = codes "OutOfSpec S6"
error_text (OutOfSpec S7) = codes "OutOfSpec S7"
error_text (OutOfSpec S8) = codes "OutOfSpec S8"
error_text (OutOfSpec S9) = codes "OutOfSpec S9"
error_text (OutOfSpec S10) = codes "OutOfSpec S10"
error_text (NotYetImplemented N1) = codes "NotYetImplemented N1"
error_text (NotYetImplemented N2) = codes "NotYetImplemented N2"
error_text (NotYetImplemented N3) = codes "NotYetImplemented N3"
error_text (NotYetImplemented N4) = codes "NotYetImplemented N4"
error_text (NotYetImplemented N5) = codes "NotYetImplemented N5"
error_text (NotYetImplemented N6) = codes "NotYetImplemented N6"
error_text (NotYetImplemented N7) = codes "NotYetImplemented N7"
error_text (NotYetImplemented N8) = codes "NotYetImplemented N8"
error_text (InvalidArgumentError A1) = codes "InvalidArgumentError A1"
error_text (InvalidArgumentError A2) = codes "InvalidArgumentError A2"
error_text (InvalidArgumentError A3) = codes "InvalidArgumentError A3"
error_text (InvalidArgumentError A4) = codes "InvalidArgumentError A4"
error_text (InvalidArgumentError A5) = codes "InvalidArgumentError A5"
error_text (InvalidArgumentError A6) = codes "InvalidArgumentError A6"
error_text (InvalidArgumentError A7) = codes "InvalidArgumentError A7"
error_text (InvalidArgumentError A8) = codes "InvalidArgumentError A8"
error_text (Overflow V1) = codes "Overflow V1"
error_text (Overflow V2) = codes "Overflow V2"
error_text (Overflow V3) = codes "Overflow V3"
error_text Memory = codes "Memory"
