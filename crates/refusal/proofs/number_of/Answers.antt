use mathlib.Core.Path.{sym, ap}
use Rattle.refusal.specs.Number.{number}
use Rattle.refusal.proofs.number_of.Goals as goal

pub returns-in-ImageLength : goal.returns-in-ImageLength
returns-in-ImageLength c = sym (ap number c.in-ImageLength.is)

pub returns-in-Magic : goal.returns-in-Magic
returns-in-Magic c = sym (ap number c.in-Magic.is)

pub returns-in-Version : goal.returns-in-Version
returns-in-Version c = sym (ap number c.in-Version.is)

pub returns-in-HeaderChecksum : goal.returns-in-HeaderChecksum
returns-in-HeaderChecksum c = sym (ap number c.in-HeaderChecksum.is)

pub returns-in-Encoding : goal.returns-in-Encoding
returns-in-Encoding c = sym (ap number c.in-Encoding.is)

pub returns-in-PageOffset : goal.returns-in-PageOffset
returns-in-PageOffset c = sym (ap number c.in-PageOffset.is)

pub returns-in-PageKind : goal.returns-in-PageKind
returns-in-PageKind c = sym (ap number c.in-PageKind.is)

pub returns-in-PageNumber : goal.returns-in-PageNumber
returns-in-PageNumber c = sym (ap number c.in-PageNumber.is)

pub returns-in-PageChecksum : goal.returns-in-PageChecksum
returns-in-PageChecksum c = sym (ap number c.in-PageChecksum.is)

pub returns-in-PageCounts : goal.returns-in-PageCounts
returns-in-PageCounts c = sym (ap number c.in-PageCounts.is)

pub returns-in-KeyOrder : goal.returns-in-KeyOrder
returns-in-KeyOrder c = sym (ap number c.in-KeyOrder.is)

pub returns-in-BlockUnlisted : goal.returns-in-BlockUnlisted
returns-in-BlockUnlisted c = sym (ap number c.in-BlockUnlisted.is)

pub returns-in-BlockOffset : goal.returns-in-BlockOffset
returns-in-BlockOffset c = sym (ap number c.in-BlockOffset.is)

pub returns-in-BlockTrailer : goal.returns-in-BlockTrailer
returns-in-BlockTrailer c = sym (ap number c.in-BlockTrailer.is)

pub returns-in-BlockChecksum : goal.returns-in-BlockChecksum
returns-in-BlockChecksum c = sym (ap number c.in-BlockChecksum.is)

pub returns-in-DataTree : goal.returns-in-DataTree
returns-in-DataTree c = sym (ap number c.in-DataTree.is)

pub returns-in-ShortBuffer : goal.returns-in-ShortBuffer
returns-in-ShortBuffer c = sym (ap number c.in-ShortBuffer.is)

pub returns-in-HeapShape : goal.returns-in-HeapShape
returns-in-HeapShape c = sym (ap number c.in-HeapShape.is)

pub returns-in-HeapItem : goal.returns-in-HeapItem
returns-in-HeapItem c = sym (ap number c.in-HeapItem.is)

pub returns-in-PropertyTree : goal.returns-in-PropertyTree
returns-in-PropertyTree c = sym (ap number c.in-PropertyTree.is)

pub returns-in-KeyRange : goal.returns-in-KeyRange
returns-in-KeyRange c = sym (ap number c.in-KeyRange.is)

pub returns-in-TableShape : goal.returns-in-TableShape
returns-in-TableShape c = sym (ap number c.in-TableShape.is)
