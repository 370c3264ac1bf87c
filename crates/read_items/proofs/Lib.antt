mod Items
