use Rattle.line_tree.proofs.text.Text.+add_replaced.Given as goal

-- at each call the text gives way to a part
abbrev pub decreases-add_replaced : goal.decreases-add_replaced
decreases-add_replaced l = l.self.now.height
