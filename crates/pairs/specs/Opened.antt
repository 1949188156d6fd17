-- What opening a pair file gives.
use Rattle.std.specs.Prelude.{◌≡◌, ℕ, List}
use Rattle.pairs.specs.declared.file.PairFile.{PairFile}
use Rattle.pairs.specs.declared.header.PairHeader.{PairHeader}
use Rattle.pairs.specs.PairFile.{FramePasses, InOrder, count_in, rows_in}

-- the header of a file that passes all questions that are put to the file alone; the file's bytes are the ones handed in
pub record HeaderOf (b : List ℕ) (file : PairFile) : Type 0 where
  pub frame : FramePasses b
  pub in_order : InOrder b (count_in b)
  pub count_read : file.count ≡ count_in b
  pub rows_read : file.rows ≡ rows_in b
  pub bytes_are : file.bytes.now ≡ b

-- the header of a file that passes questions 1, 2, 3 and 5; the file's bytes are the ones handed in
pub record FrameOf (b : List ℕ) (file : PairFile) : Type 0 where
  pub frame_passes : FramePasses b
  pub count_is : file.count ≡ count_in b
  pub rows_is : file.rows ≡ rows_in b
  pub bytes_same : file.bytes.now ≡ b

-- the header of a file that passes all questions that are put to the file alone, without the file's bytes
pub record HeaderIn (b : List ℕ) (h : PairHeader) : Type 0 where
  pub frame_in : FramePasses b
  pub order_in : InOrder b (count_in b)
  pub count_says : h.count ≡ count_in b
  pub rows_says : h.rows ≡ rows_in b
