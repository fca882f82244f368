use Rattle.git_strictpoly.proofs.front.Front.+powers.Given as goal

abbrev pub decreases-powers : goal.decreases-powers
decreases-powers l = l.left
