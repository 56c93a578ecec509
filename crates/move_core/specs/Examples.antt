-- Bodies of pages and what is written for them, which a law compares with the definitions (own).
use Rattle.std.specs.Prelude.{ℕ, pos}
use Rattle.dvi_ops.specs.Instruction.{Axis, Across, Downward, First, Second, Movement, By, Set, Again, SetChar, SetRule, FontNum, Move}
use Rattle.dvi_ops.specs.Forest.{Forest, Empty, Then, Group}

-- A movement, and after it a character.
abbrev pub shown_at : Axis → Movement → Forest → Forest
shown_at axis step rest = Then (Move axis step) (Then (SetChar (pos 99)) rest)

-- A movement by an amount, and after it a character.
abbrev pub movement_across : (amount : ℕ) → Forest → Forest
movement_across n rest = shown_at Across (By (pos n)) rest

-- A movement down by an amount, and after it a character.
abbrev pub down : (amount : ℕ) → Forest → Forest
down n rest = shown_at Downward (By (pos n)) rest

-- Characters after movements by 5, 5, in a group by 5, 7, 7, and after the group by 5 and 7.
abbrev pub nested_movements : Forest
nested_movements = movement_across 5 (movement_across 5
    (Group (movement_across 5 (movement_across 7 (movement_across 7 Empty))) (movement_across 5 (movement_across 7 Empty))))

-- The register w holds 5 in the group too. After the group x is unset again, and 7 does not come again there.
abbrev pub nested_reused : Forest
nested_reused =
    shown_at Across (Set First (pos 5)) (shown_at Across (Again First)
    (Group (shown_at Across (Again First) (shown_at Across (Set Second (pos 7)) (shown_at Across (Again Second) Empty)))
    (shown_at Across (Again First) (movement_across 7 Empty))))

-- Three amounts, twice each.
abbrev pub three_amounts : Forest
three_amounts = movement_across 5 (movement_across 7 (movement_across 9 (movement_across 5 (movement_across 7 (movement_across 9 Empty)))))

-- The amount 9 replaces 5 in w, since x was used last; so the second 5 is a right.
abbrev pub three_amounts_reused : Forest
three_amounts_reused =
    shown_at Across (Set First (pos 5)) (shown_at Across (Set Second (pos 7)) (shown_at Across (Set First (pos 9))
    (movement_across 5 (shown_at Across (Again Second) (shown_at Across (Again First) Empty)))))

-- Three amounts, twice each, downward.
abbrev pub three_depths : Forest
three_depths = down 5 (down 7 (down 9 (down 5 (down 7 (down 9 Empty)))))

-- The same form with y and z.
abbrev pub three_depths_reused : Forest
three_depths_reused =
    shown_at Downward (Set First (pos 5)) (shown_at Downward (Set Second (pos 7)) (shown_at Downward (Set First (pos 9))
    (down 5 (shown_at Downward (Again Second) (shown_at Downward (Again First) Empty)))))

-- One amount across comes again only downward, and one downward only across.
abbrev pub two_directions : Forest
two_directions = movement_across 5 (down 7 (down 5 (movement_across 7 Empty)))

-- A group in a group, with nothing in it, and after it 5 twice.
abbrev pub empty_groups : Forest
empty_groups = Group (Group Empty Empty) (movement_across 5 (movement_across 5 Empty))

-- The body without those groups.
abbrev pub empty_groups_reused : Forest
empty_groups_reused = shown_at Across (Set First (pos 5)) (shown_at Across (Again First) Empty)

-- A group with 7, 9, 7, 9 and 5, where w holds 5 before the group and is used after it.
abbrev pub set_in_a_group : Forest
set_in_a_group = movement_across 5 (Group (movement_across 7 (movement_across 9 (movement_across 7 (movement_across 9 (movement_across 5 Empty)))))
    (movement_across 5 Empty))

-- The group sets x and w. After it, w holds 5 again.
abbrev pub set_in_a_group_reused : Forest
set_in_a_group_reused =
    shown_at Across (Set First (pos 5))
    (Group (shown_at Across (Set Second (pos 7))
    (shown_at Across (Set First (pos 9)) (shown_at Across (Again Second) (shown_at Across (Again First) (movement_across 5 Empty)))))
    (shown_at Across (Again First) Empty))

-- An amount that comes again only in a group, and one in a group that comes again only after it.
abbrev pub apart_amounts : Forest
apart_amounts = movement_across 5 (Group (movement_across 5 (movement_across 7 Empty)) (movement_across 7 Empty))

-- The body of a page with two fonts; the second is selected in a group.
abbrev pub fonts_in_nested_boxes : Forest
fonts_in_nested_boxes =
    Then (Move Downward (By (pos 655360))) (Then (FontNum (pos 0)) (Then (SetChar (pos 99))
    (Group (Then (FontNum (pos 1)) (Then (SetChar (pos 98)) Empty)) (Then (Move Across (By (pos 655360))) (Then (SetChar (pos 99)) Empty)))))

-- Four rules with three equal distances between them.
abbrev pub kerned_rules : Forest
kerned_rules =
    Then (Move Downward (By (pos 65536))) (Then (SetRule (pos 65536) (pos 65536)) (Then (Move Across (By (pos 131072)))
    (Then (SetRule (pos 65536) (pos 65536)) (Then (Move Across (By (pos 131072))) (Then (SetRule (pos 65536) (pos 65536))
    (Then (Move Across (By (pos 131072))) (Then (SetRule (pos 65536) (pos 65536)) Empty)))))))

-- The first distance is set in w.
abbrev pub kerned_rules_reused : Forest
kerned_rules_reused =
    Then (Move Downward (By (pos 65536))) (Then (SetRule (pos 65536) (pos 65536)) (Then (Move Across (Set First (pos 131072)))
    (Then (SetRule (pos 65536) (pos 65536)) (Then (Move Across (Again First)) (Then (SetRule (pos 65536) (pos 65536))
    (Then (Move Across (Again First)) (Then (SetRule (pos 65536) (pos 65536)) Empty)))))))
