-- What values are made of, and how operations pass it on: the address that went into one, if one did.
use Rattle.std.specs.Prelude.{ℕ, ◌/◌, ◌%◌, ◌^◌, Bool, true, false, ◌==◌, ◌&&◌, ◌||◌, if◌then◌else◌}
use Rattle.qil_tree.specs.declared.ops.Class.{Class}
use Rattle.qil_tree.specs.declared.ops.Class.TheVariants as classes
use Rattle.qil_tree.specs.declared.ops.UnaryOp.{UnaryOp}
use Rattle.qil_tree.specs.declared.ops.UnaryOp.TheVariants as unary_ops
use Rattle.qil_tree.specs.declared.ops.BinaryOp.{BinaryOp}
use Rattle.qil_tree.specs.declared.ops.BinaryOp.TheVariants as binary_ops
use Rattle.qil_tree.specs.declared.ops.Extension.{Extension}
use Rattle.qil_tree.specs.declared.ops.Extension.TheVariants as extensions
use Rattle.qil_shadow.specs.declared.origin.ObjectId.{ObjectId}
use Rattle.qil_shadow.specs.declared.origin.Origin.{Origin}
use Rattle.qil_shadow.specs.declared.origin.Origin.TheVariants.{Number, Address, Part, Cut, Mixed}

-- ---- operands

-- the low 32 bits of a value
abbrev pub low_word : Origin → Origin
low_word Number = Number
low_word (Address o) = Part o 0
low_word (Part o k) = Part o k
low_word Cut = Cut
low_word Mixed = Cut

-- a value where one of a class is wanted
abbrev pub in_class : Class → Origin → Origin
in_class classes.W m = low_word m
in_class classes.L m = m

-- in arithmetic a part of an address is an address that was cut
abbrev pub plain : Origin → Origin
plain Number = Number
plain (Address o) = Address o
plain (Part o k) = Cut
plain Cut = Cut
plain Mixed = Mixed

abbrev pub is_number : Origin → Bool
is_number Number = true
is_number (Address o) = false
is_number (Part o k) = false
is_number Cut = false
is_number Mixed = false

abbrev pub is_cut : Origin → Bool
is_cut Number = false
is_cut (Address o) = false
is_cut (Part o k) = true
is_cut Cut = true
is_cut Mixed = false

abbrev pub same_object : ObjectId → ObjectId → Bool
same_object o q = o.index == q.index

-- ---- operations of class l

-- an address with a number is one of its object
abbrev pub sum : Origin → Origin → Origin
sum a b = if is_number a then plain b else (if is_number b then plain a else Mixed)

-- the distance of two addresses of one object
abbrev pub distance : Origin → Origin → Origin
distance (Address o) (Address q) = if same_object o q then Number else Mixed
distance a b = Mixed

abbrev pub difference : Origin → Origin → Origin
difference a b = if is_number b then plain a else distance a b

-- the bits 32 to 47 of a mask tell whether it leaves an address
abbrev pub middle : ℕ → ℕ
middle n = (n / 2 ^ 32) % 2 ^ 16

abbrev pub address_under : ObjectId → ℕ → Origin
address_under o bits = if bits == 65535 then Address o else (if bits == 0 then Cut else Mixed)

-- what a mask leaves of a value
abbrev pub under : ℕ → Origin → Origin
under n Number = Number
under n (Address o) = address_under o (middle n)
under n (Part o k) = Cut
under n Cut = Cut
under n Mixed = Mixed

abbrev pub masked : Origin → ℕ → Origin → ℕ → Origin
masked a v b w = if is_number a then under v b else (if is_number b then under w a else Mixed)

abbrev pub shifted_left : Origin → Origin → Origin
shifted_left a b = if is_number a && is_number b then Number else Mixed

-- of numbers and cut addresses it is cut
abbrev pub blended : Origin → Origin → Origin
blended a b =
    if is_number a && is_number b then Number else
    (if (is_number a || is_cut a) && (is_number b || is_cut b) then Cut else Mixed)

abbrev pub long_origin : BinaryOp → Origin → ℕ → Origin → ℕ → Origin
long_origin binary_ops.Add a v b w = sum a b
long_origin binary_ops.Or a v b w = sum a b
long_origin binary_ops.Xor a v b w = sum a b
long_origin binary_ops.Sub a v b w = difference a b
long_origin binary_ops.And a v b w = masked a v b w
long_origin binary_ops.Shl a v b w = shifted_left a b
long_origin binary_ops.Mul a v b w = blended a b
long_origin binary_ops.Div a v b w = blended a b
long_origin binary_ops.Rem a v b w = blended a b
long_origin binary_ops.Udiv a v b w = blended a b
long_origin binary_ops.Urem a v b w = blended a b
long_origin binary_ops.Sar a v b w = blended a b
long_origin binary_ops.Shr a v b w = blended a b

-- ---- operations of class w

-- the distance of two addresses of one object, by their low words
abbrev pub low_distance : Origin → Origin → Origin
low_distance (Part o j) (Part q k) = if same_object o q && j == 0 && k == 0 then Number else Cut
low_distance a b = Cut

abbrev pub word_origin : BinaryOp → Origin → Origin → Origin
word_origin binary_ops.Sub a b = if is_number a && is_number b then Number else low_distance a b
word_origin op a b = if is_number a && is_number b then Number else Cut

-- ---- what an expression gives

-- of one temporary twice nothing is left
abbrev pub cancels : BinaryOp → Bool
cancels binary_ops.Sub = true
cancels binary_ops.Xor = true
cancels op = false

abbrev pub uncancelled : BinaryOp → Class → Origin → ℕ → Origin → ℕ → Origin
uncancelled op classes.W a v b w = word_origin op a b
uncancelled op classes.L a v b w = long_origin op a v b w

-- of two values with what they are made of, and whether both are one temporary
abbrev pub binary_origin : BinaryOp → Class → Bool → Origin → ℕ → Origin → ℕ → Origin
binary_origin op c is_twice a v b w = if is_twice && cancels op then Number else uncancelled op c a v b w

abbrev pub negated : Class → Origin → Origin
negated classes.W a = if is_number a then Number else Cut
negated classes.L a = blended a Number

abbrev pub unary_origin : UnaryOp → Class → Origin → Origin
unary_origin unary_ops.Copy c a = a
unary_origin unary_ops.Neg c a = negated c a

-- an extension of a word keeps the word
abbrev pub extended_origin : Extension → Origin → Origin
extended_origin extensions.Sw a = a
extended_origin extensions.Uw a = a
extended_origin op a = if is_number a then Number else Cut
