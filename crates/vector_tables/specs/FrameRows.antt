-- The table of frames: for each tag a frame, beginnings of frames, and for each rule of bad bytes frames with their first bad byte.
use Prim.Native.String.{String}
use Rattle.std.specs.Prelude.{ℕ, ◌==◌, List, [], ◌∷◌, codes, if◌then◌else◌}
use Rattle.frame_forms.specs.declared.bad_kind.BadKind.TheVariants.{Length, Tag, Field, Pattern, Rest}
use Rattle.frame_forms.specs.Examples.{bytes_of}
use Rattle.vector_tables.specs.declared.verdict.Verdict.{Verdict}
use Rattle.vector_tables.specs.declared.verdict.Verdict.TheVariants.{Whole, Begun, Bad}
use Rattle.vector_tables.specs.FrameCases.{FrameRow}

-- characters without the blanks
abbrev unspaced : List ℕ → List ℕ
unspaced [] = []
unspaced (c ∷ others) = if c == 32 then unspaced others else (c ∷ unspaced others)

-- a row with its name, and its bytes in hexadecimal digits, with a blank between fields
abbrev row : String → String → Verdict → FrameRow
row name digits expected = record { name = codes name; bytes = bytes_of (unspaced (codes digits)); expected = expected }

abbrev pub frame_rows : List FrameRow
frame_rows =
    -- the frames of a build
    row "Init for builder, level 11, no options" "00000012 01 00000007 6275696c646572 000b 00000000" Whole ∷
    row "Round 1 of builder" "00000037 02 00000001 00 00 00000001 00000010 6170742e64656d6f2e4275696c646572 00000002 00000006 612e5465616d 00000006 612e55736572" Whole ∷
    row "Done without its last byte" "00000002 41" Begun ∷
    row "Hello of builder" "0000004c 40 00000001 00000010 6170742e64656d6f2e4275696c646572 00000001 0000002a 6f72672e677261646c652e616e6e6f746174696f6e2e70726f63657373696e672e69736f6c6174696e67 00" Whole ∷
    row "Hello of builder without its last byte" "0000004c 40 00000001 00000010 6170742e64656d6f2e4275696c646572 00000001 0000002a 6f72672e677261646c652e616e6e6f746174696f6e2e70726f63657373696e672e69736f6c6174696e67" Begun ∷
    -- each tag: the frames of the host, those of a child, and its questions
    row "Init" "00000010 01 00000005 6d616b6572 000b 00000000" Whole ∷
    row "Round" "0000001d 02 00000001 00 00 00000001 00000003 712e41 00000001 00000003 702e43" Whole ∷
    row "Elements" "0000001d 10 00000002 00000003 702e43 00000000 00000003 702e43 00000001 0001" Whole ∷
    row "Info" "00000011 11 02 0041 00000001 43 00000003 702e43 00" Whole ∷
    row "Texts" "00000011 12 00000001 00000008 4120636c6173732e" Whole ∷
    row "Annotations" "00000021 13 00000001 01 00000003 712e41 00000000 00 00000000 00000001 00000001 6e 00 01" Whole ∷
    row "Values" "00000018 14 00000001 00000005 76616c7565 01 03 0000000000000002" Whole ∷
    row "Mirrors" "0000000b 15 00000001 05 01 01 04 00 03" Whole ∷
    row "Truth" "00000002 16 01" Whole ∷
    row "Created" "00000002 17 00" Whole ∷
    row "Noted" "00000001 18" Whole ∷
    row "Refused" "00000002 19 00" Whole ∷
    row "Hello" "00000011 40 00000001 00000003 712e41 00000000 00" Whole ∷
    row "Done" "00000002 41 01" Whole ∷
    row "CreateSource" "00000012 42 00000003 702e47 00000002 6869 00000000" Whole ∷
    row "CreateResource" "00000016 43 01 00000001 70 00000001 78 00000002 6869 00000000" Whole ∷
    row "CreateClass" "00000014 44 00000003 702e47 00000004 cafebabe 00000000" Whole ∷
    row "Message" "0000000b 45 03 00 00000004 6e6f7465" Whole ∷
    row "TypeElement" "00000008 50 00000003 782e59" Whole ∷
    row "PackageElement" "00000006 51 00000001 70" Whole ∷
    row "Info, the question" "0000000e 52 00000003 702e43 00000001 0001" Whole ∷
    row "Enclosing" "0000000e 53 00000003 702e43 00000001 0001" Whole ∷
    row "Enclosed" "0000000c 54 00000003 702e43 00000000" Whole ∷
    row "TypeParameters" "0000000c 55 00000003 702e43 00000000" Whole ∷
    row "Parameters" "0000000e 56 00000003 702e43 00000001 0001" Whole ∷
    row "PackageOf" "0000000e 57 00000003 702e43 00000001 0001" Whole ∷
    row "DocComment" "00000010 58 00000003 702e43 00000002 0001 0102" Whole ∷
    row "Annotations, the question" "0000000c 59 00000003 702e43 00000000" Whole ∷
    row "AllAnnotations" "0000000c 5a 00000003 702e43 00000000" Whole ∷
    row "ValuesWithDefaults" "0000000e 5b 00000003 702e43 00000000 0000" Whole ∷
    row "DefaultValue" "0000000e 5c 00000003 712e41 00000001 0000" Whole ∷
    row "ConstantValue" "0000000e 5d 00000003 702e43 00000001 0002" Whole ∷
    row "AllMembers" "0000000c 5e 00000003 702e43 00000000" Whole ∷
    row "Overrides" "00000020 5f 00000001 43 00000001 0001 00000001 42 00000001 0000 00000001 43 00000000" Whole ∷
    row "TypeOf" "0000000e 60 00000003 702e43 00000001 0001" Whole ∷
    row "Superclass" "0000000c 61 00000003 702e43 00000000" Whole ∷
    row "Interfaces" "0000000c 62 00000003 702e43 00000000" Whole ∷
    row "Bounds" "0000000e 63 00000003 702e43 00000001 0000" Whole ∷
    row "SameType" "00000005 64 00 03 00 04" Whole ∷
    row "Subtype" "00000005 65 00 03 00 04" Whole ∷
    row "Assignable" "00000014 66 00 03 01 00000003 702e44 00000000 00 00000000" Whole ∷
    row "Contains" "00000015 67 05 00 00 01 00000003 702e43 00000000 00 00000000" Whole ∷
    row "Subsignature" "0000001f 68 06 00000000 00000001 00 03 08 00000000 06 00000000 00000000 08 00000000" Whole ∷
    row "DirectSupertypes" "00000012 69 01 00000003 702e43 00000000 00 00000000" Whole ∷
    row "Erasure" "00000005 6a 04 04 00 03" Whole ∷
    row "Boxed" "00000003 6b 00 03" Whole ∷
    row "Unboxed" "00000020 6c 01 00000011 6a6176612e6c616e672e496e7465676572 00000000 00 00000000" Whole ∷
    row "MemberType" "0000001f 6d 01 00000003 702e43 00000000 00 00000000 00000003 702e43 00000001 0001" Whole ∷
    row "AsElement" "0000000f 6e 03 00000003 702e43 00000001 0000" Whole ∷
    row "PrintType" "00000004 6f 04 00 03" Whole ∷
    row "DeclaredType" "0000001e 70 00000003 702e43 00000000 00000001 03 00000003 702e44 00000001 0000" Whole ∷
    row "ArrayType" "00000003 71 00 03" Whole ∷
    row "AnnotatedWith" "00000008 72 00000003 712e41" Whole ∷
    row "Roots" "00000001 73" Whole ∷
    -- options, origins, and a message at an element
    row "Init with an option" "00000021 01 00000005 6d616b6572 000b 00000001 00000005 6465627567 00000004 74727565" Whole ∷
    row "CreateSource with an origin" "00000021 42 00000003 702e47 00000002 6869 00000001 00000003 702e43 00000002 0001 0102" Whole ∷
    row "Message at an element" "00000019 45 01 01 00000003 702e43 00000002 0001 0102 00000003 6f6464" Whole ∷
    -- only the beginning of a frame
    row "no bytes" "" Begun ∷
    row "a length without its last byte" "000000" Begun ∷
    row "a length" "00000001" Begun ∷
    row "the greatest length" "07fffffc 50" Begun ∷
    row "a text without its last byte" "00000008 50 00000003 782e" Begun ∷
    -- the length: its fourth byte is bad, whatever comes behind it
    row "the length 0" "00000000" (Bad 3 Length) ∷
    row "the length 0 with a tag behind it" "00000000 41" (Bad 3 Length) ∷
    row "a length of one too many" "07fffffd" (Bad 3 Length) ∷
    row "the greatest number" "ffffffff 73" (Bad 3 Length) ∷
    -- a tag that no frame has; a byte earlier its length is bad, and a byte later the bool behind a tag
    row "the tag 77" "00000001 77" (Bad 4 Tag) ∷
    row "the tag 0" "00000009 00" (Bad 4 Tag) ∷
    row "the tag 77 behind the length 0" "00000000 77" (Bad 3 Length) ∷
    row "a bool of 77" "00000002 41 77" (Bad 5 Field) ∷
    -- a number out of its range: a primitive type of 8, and the same a byte earlier and a byte later
    row "Boxed of a primitive type of 8" "00000003 6b 00 08" (Bad 6 Field) ∷
    row "Boxed of a mirror of 11" "00000003 6b 0b 08" (Bad 5 Field) ∷
    row "Boxed of an array of a primitive type of 8" "00000004 6b 04 00 08" (Bad 7 Field) ∷
    row "Done with a bool of 2" "00000002 41 02" (Bad 5 Field) ∷
    row "Created of 5" "00000002 17 05" (Bad 5 Field) ∷
    -- an opt that does not fit its wildcard, and the same a byte earlier and a byte later
    row "? with a mirror" "00000006 6a 05 00 01 00 03" (Bad 7 Field) ∷
    row "a wildcard of 3" "00000006 6a 05 03 01 00 03" (Bad 6 Field) ∷
    row "an array of ? with a mirror" "00000007 6a 04 05 00 01 00 03" (Bad 8 Field) ∷
    -- a text of no characters: its last byte is bad, and the same a byte earlier and a byte later
    row "a text of two bytes that are no characters" "00000007 50 00000002 c328" (Bad 10 Field) ∷
    row "a text of one byte that is no character" "00000006 50 00000001 c3" (Bad 9 Field) ∷
    row "a text of three bytes that are no characters" "00000008 50 00000003 61c328" (Bad 11 Field) ∷
    -- a text that is not greater than the one before it, and the same a byte earlier and a byte later
    row "roots a.C and a.B" "0000001d 02 00000001 00 00 00000000 00000002 00000003 612e43 00000003 612e42" (Bad 32 Field) ∷
    row "roots a.C and a." "0000001c 02 00000001 00 00 00000000 00000002 00000003 612e43 00000002 612e" (Bad 31 Field) ∷
    row "roots a.C and a.Ba" "0000001e 02 00000001 00 00 00000000 00000002 00000003 612e43 00000004 612e4261" (Bad 33 Field) ∷
    row "the root a.B twice" "0000001d 02 00000001 00 00 00000000 00000002 00000003 612e42 00000003 612e42" (Bad 32 Field) ∷
    row "Hello with * twice" "00000014 40 00000002 00000001 2a 00000001 2a 00000000 00" (Bad 18 Field) ∷
    -- a name that is no pattern, and the same a byte earlier and a byte later
    row "Hello with a.*.b" "00000013 40 00000001 00000005 612e2a2e62 00000000 00" (Bad 17 Pattern) ∷
    row "Hello with a.*b" "00000012 40 00000001 00000004 612e2a62 00000000 00" (Bad 16 Pattern) ∷
    row "Hello with a.*.bc" "00000014 40 00000001 00000006 612e2a2e6263 00000000 00" (Bad 18 Pattern) ∷
    row "Hello with an empty name" "0000000e 40 00000001 00000000 00000000 00" (Bad 12 Pattern) ∷
    -- a byte behind the last field, and the same a byte earlier and a byte later
    row "Done with one byte more" "00000003 41 01 00" (Bad 6 Rest) ∷
    row "Noted with one byte more" "00000002 18 00" (Bad 5 Rest) ∷
    row "Boxed with one byte more" "00000004 6b 00 03 00" (Bad 7 Rest) ∷
    -- a frame that ends before its fields do, and the same a byte earlier and a byte later
    row "Boxed without a primitive type" "00000002 6b 00" (Bad 5 Field) ∷
    row "Done without its bool" "00000001 41" (Bad 4 Field) ∷
    row "PrintType without the item of an array" "00000003 6f 04 04" (Bad 6 Field) ∷
    row "Hello that ends with a name that is no pattern" "0000000a 40 00000001 00000001 2d" (Bad 13 Pattern) ∷
    []
