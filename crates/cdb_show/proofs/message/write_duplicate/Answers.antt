use Rattle.cdb_show.proofs.Words.{List, [], ap, append_assoc, duplicate_line, numbered, same_writes, sym, ℕ, ◌++◌, ◌∙◌, ◌≡◌}
use Rattle.std.specs.Prelude.{codes, decimal}
use Rattle.cdb_show.proofs.message.write_duplicate.Goals as goal

-- the line, in the pieces that are written
in_five : (i j : ℕ) → duplicate_line i j ≡ codes "cdb: input " ++ (decimal i ++ (codes ": record " ++ (decimal j ++ (codes ": duplicate key\n" ++ []))))
in_five i j =
    ap (λ t. codes "cdb: input " ++ t)
    (append_assoc (decimal i ++ codes ": ") (numbered (codes "record ") j) (codes "duplicate key\n")
    ∙ append_assoc (decimal i) (codes ": ") (numbered (codes "record ") j ++ codes "duplicate key\n")
    ∙ ap (λ t. decimal i ++ (codes ": record " ++ t)) (append_assoc (decimal j) (codes ": ") (codes "duplicate key\n")))

line_is : (x y : List ℕ) (i j : ℕ) → x ≡ decimal i → y ≡ decimal j → codes "cdb: input " ++ (x ++ (codes ": record " ++ (y ++ (codes ": duplicate key\n" ++ [])))) ≡ duplicate_line i j
line_is x y i j a b =
    ap (λ t. codes "cdb: input " ++ (t ++ (codes ": record " ++ (y ++ (codes ": duplicate key\n" ++ []))))) a
    ∙ ap (λ t. codes "cdb: input " ++ (decimal i ++ (codes ": record " ++ (t ++ (codes ": duplicate key\n" ++ []))))) b
    ∙ sym (in_five i j)

pub returns-clause-writes : goal.returns-clause-writes
returns-clause-writes g c =
    same_writes c.write_pieces.result _ _ _ _
    (line_is _ _ c.args.input c.args.number (c.as_bytes-input.ensures.value ∙ c.format.ensures.text) (c.as_bytes-number.ensures.value ∙ c.format-2.ensures.text))
    c.write_pieces.ensures.writes
