-- The summary of the large plan of the least size.
use Rattle.std.specs.Prelude.{◌≡◌, ◌++◌, refl, codes}
use Rattle.std.specs.Fmt.{digits}
use Rattle.spec_reports.specs.Big.{big_summary}

-- the set, the add and the remove leave the unique list and the count each with one updated pair
one_element :
    big_summary 1
    ≡ codes "big 1\nentries 1\ntold a 1 1\ntold b 1 1\n"
    ++ codes "length s 1\nlength f 0\nlength o 0\nlength u 1\nlength g 1\nlength n 1\nlength c 1\n"
unfolding digits
one_element = refl
