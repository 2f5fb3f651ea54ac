mod Nobody
