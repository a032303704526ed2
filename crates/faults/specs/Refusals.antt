-- The numbers by which refusals and layers are told. Assumes nothing.
use Rattle.std.specs.Prelude.{ℕ, List, ◌++◌, codes, decimal}
use Rattle.faults.specs.declared.fault.Fault.{Fault}
use Rattle.faults.specs.declared.layer.Layer.{Layer}
use Rattle.faults.specs.declared.layer.Layer.TheVariants.{Scenario, Format, Network}
use Rattle.faults.specs.declared.refusal.Refusal.{Refusal}
use Rattle.faults.specs.declared.refusal.Refusal.TheVariants.{Layout, OutboxTooSmall, UnknownNode, UnknownFile, BadPass, Busy, UsedUp, NoLiveCopy, RowsDiffer, OtherKind, UnlawfulRow, HandFull, NothingTaken, WrongSlip, UnknownFrame, FrameField, UnknownMark, CutShort, HistoryFull}

abbrev pub number_of : Refusal → ℕ
number_of Layout = 1
number_of OutboxTooSmall = 2
number_of UnknownNode = 3
number_of UnknownFile = 4
number_of BadPass = 5
number_of Busy = 6
number_of UsedUp = 7
number_of NoLiveCopy = 8
number_of RowsDiffer = 9
number_of OtherKind = 10
number_of UnlawfulRow = 11
number_of HandFull = 12
number_of NothingTaken = 13
number_of WrongSlip = 14
number_of UnknownFrame = 15
number_of FrameField = 16
number_of UnknownMark = 17
number_of CutShort = 18
number_of HistoryFull = 19

abbrev pub layer_number : Layer → ℕ
layer_number Scenario = 1
layer_number Format = 2
layer_number Network = 3

-- a fault that the reading of a row or a frame finds at a byte
abbrev pub of_format : Refusal → ℕ → Fault
of_format refusal place = record { refusal = refusal; place = place; layer = Format }

-- a row that is unlawful from a byte on
abbrev pub unlawful_at : ℕ → Fault
unlawful_at place = of_format UnlawfulRow place

-- a frame of another length or mark, and one whose field at a byte is wrong
abbrev pub unknown_frame : Fault
unknown_frame = of_format UnknownFrame 0

abbrev pub wrong_at : ℕ → Fault
wrong_at place = of_format FrameField place

-- a fault in words, as the bytes of its text
abbrev pub told : Fault → List ℕ
told fault =
    codes "refused with " ++ (decimal (number_of fault.refusal) ++
    (codes " at byte " ++ (decimal fault.place ++ (codes ", layer " ++ decimal (layer_number fault.layer)))))
