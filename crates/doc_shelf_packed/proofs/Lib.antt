mod PieceSteps
