-- Document 01, "Pages and trees": what a tree's layout says of keys and entries. Assumes nothing: these are definitions.
use Rattle.std.specs.Prelude.{ℕ, zero, suc, ◌%◌, ◌^◌}
use Rattle.keys.specs.declared.Shape.{Shape}
use Rattle.keys.specs.Records.{significant}
use Rattle.edition.specs.declared.Layout.{Layout}

-- a number that a call is given: "NBT keys, and the node number sought, are compared on their low four bytes"
unfoldable pub as_given : Layout → ℕ → ℕ
as_given L number = number % 256 ^ L.sought

-- what is compared of a key sought. 02, 1/13: "BBT keys, index keys in the BBT and the number sought are compared with bit 0 cleared"
unfoldable pub compared : Layout → ℕ → ℕ
compared L key = significant L.reserved (as_given L key)

-- "Byte 490 (entry size) is 32 in an NBT leaf, otherwise 24." Leaf means level 0.
unfoldable pub entry_size : Layout → ℕ → ℕ
entry_size L zero = L.leafsize
entry_size L (suc l) = L.indexsize

-- "Byte 489 (room) is at most 15 in an NBT leaf, otherwise at most 20."
unfoldable pub most_room : Layout → ℕ → ℕ
most_room L zero = L.leafroom
most_room L (suc l) = L.indexroom

-- the entries of a page of this level, as records with keys
unfoldable pub shape : Layout → ℕ → Shape
shape L level = record { size = entry_size L level; width = L.key; reserved = L.reserved }
